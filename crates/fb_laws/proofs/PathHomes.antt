-- The names of paths, and the home of what is at a path: the resource of the nearest mapping of it or above it.
use Rattle.fb_laws.proofs.Common.{arith, ◌≢◌, ℕ, List, [], ◌∷◌, ◌++◌, Contains-append_left, Contains-append_right, NameUse, contains_flat_map, contains_here, contains_later, contains_map, InstanceTree, MappingTree, NetworkTree, SystemTree, TypeTree, subapplication_type, system_configuration, Sources, IsSystemAt, IsAtPath, in_application, inside, path_of, Part, application_parts, name_part, network_parts, tree_parts, Contains, All-cons, All-contains_itself, All-map, All-nil, All-push, All-weaker, ◌≡◌, ◌+◌, ◌≤◌, length, take, Some, None, sym, ap, ◌∙◌, subst, refl, option_map, find, bytes_eq, dec_lt, false_from_ne_true, contains_nothing, on_itself, MappedTwice, Fault, IsSound, IsPrefix, IsNearest, mapping_home, mapping_path, resource_at, place_of_path, IsAbove, IsMappedTo, with_points, Path}
use Rattle.fb_laws.proofs.{PathTexts.{IsPlain, name_in_unit, ArePlain, goes_on, prefix_has_name, prefix_of, same_names, same_print, text_lengths}, FirstLemmas.{at_contained}}
use Rattle.fb_laws.proofs.{HomeLemmas.{bytes_same, found_in, same_bytes}, Lists.{by_option, first_found, split_at}, MappingRows.{own_paths}, PathHolders.{no_report}}

-- ---- the places of names in trees

in_network : (n : NetworkTree) (i : InstanceTree) → Contains n.instances i → Contains (network_parts n) (name_part i.name)
in_network n i c = search (Contains-append_left, contains_flat_map, contains_here)

in_type : (d : TypeTree) (p : Part) → Contains (network_parts d.network) p → Contains (tree_parts (subapplication_type d)) p
in_type d p c = search (contains_later, Contains-append_right, Contains-append_left)

in_mapping_parts : (s : SystemTree) (m : MappingTree) (name : NameUse) → Contains s.mappings m → Contains m.path name → Contains (tree_parts (system_configuration s)) (name_part name)
in_mapping_parts s m name c h =
    let own = contains_map name_part m.path name h in
    search (contains_later, Contains-append_right, contains_flat_map, Contains-append_left) depth 6

-- ---- paths

module _ (sources : Sources) (unit : List ℕ) (s : SystemTree) (is : IsSystemAt sources unit s) where
  pub mapping_plain : (m : MappingTree) → Contains s.mappings m → ArePlain (path_of m)
  mapping_plain m c =
      All-map IsPlain (λ (n : NameUse). n.name) m.path
      (All-weaker (Contains m.path) (λ (n : NameUse). IsPlain n.name) (λ n h. name_in_unit sources unit (system_configuration s) is n (in_mapping_parts s m n c h)) m.path (All-contains_itself m.path))

  pub path_plain : (path : List (List ℕ)) (i : InstanceTree) → IsAtPath sources s path i → ArePlain path
  path_plain path end (in_application a i ca ci) =
      let named = λ (n : NameUse) (h : Contains (application_parts a) (name_part n)). name_in_unit sources unit (system_configuration s) is n (search (contains_later, Contains-append_left, contains_flat_map)) in
      All-cons IsPlain a.name.name (i.name.name ∷ []) (named a.name (contains_here (name_part a.name) (network_parts a.network)))
      (All-cons IsPlain i.name.name [] (named i.name (contains_later (name_part a.name) (network_parts a.network) (name_part i.name) (in_network a.network i ci))) (All-nil IsPlain))
  path_plain path end (inside {path = before} {outer = outer} type i at role there ci) =
      All-push IsPlain before i.name.name (path_plain before outer at)
      (name_in_unit sources outer.type_name.name (subapplication_type type) there i.name (in_type type (name_part i.name) (in_network type.network i ci)))

pub some_more : (path : List (List ℕ)) (name : List ℕ) → path ++ name ∷ [] ≢ []
some_more [] name e = cc
some_more (first ∷ others) name e = cc

pub path_some : (sources : Sources) (s : SystemTree) (path : List (List ℕ)) (i : InstanceTree) → IsAtPath sources s path i → path ≢ []
path_some sources s path i at e = grind (arith, in_application, inside, some_more)

module _ (sources : Sources) (unit : List ℕ) (s : SystemTree) (is : IsSystemAt sources unit s) (sound : IsSound sources unit) where
  -- the resource under the path of a mapping, which no other mapping before it has
  pub mapped_there : (m : MappingTree) → Contains s.mappings m → resource_at s.mappings (mapping_path m) ≡ Some (mapping_home m)
  mapped_there m c =
      let before = take c.0 s.mappings in
      let o = split_at s.mappings c.0 m (at_contained s.mappings m c) in
      let test = λ (z : MappingTree). bytes_eq (mapping_path z) (mapping_path m) in
      let other = λ (z : MappingTree) (d : Contains before z) (same : mapping_path z ≡ mapping_path m).
      (let listed = subst (λ (l : List MappingTree). Contains l z) (sym o.1) (Contains-append_left before (m ∷ o.0) z d) in
      let names = same_names (path_of z) (path_of m) (mapping_plain sources unit s is z listed) (mapping_plain sources unit s is m c) (same_print (path_of z) ∙ same ∙ sym (same_print (path_of m))) in
      let fault : Fault = record { code = MappedTwice; span = place_of_path m.path } in
      let has = (own_paths sources unit (place_of_path m.path)).1 (record { system = s; declared = is; before = before; again = m; after = o.0; listed = o.1; first = z; earlier = d; same = names; place = refl }) in
      contains_nothing fault (subst (λ (l : List Fault). Contains l fault) (no_report sources unit sound unit on_itself).mappings has)) in
      ap (λ (l : List MappingTree). option_map mapping_home (find test l)) o.1
      ∙ ap (option_map mapping_home) (first_found test before m o.0 (λ z d. false_from_ne_true (test z) (λ yes. other z d (same_bytes (mapping_path z) (mapping_path m) yes))) (bytes_same (mapping_path m) (mapping_path m) refl))

  -- ---- a path

  module _ (path : Path) (i : InstanceTree) (at : IsAtPath sources s path i) where
    above_prefix : (m : MappingTree) → IsAbove m path → IsPrefix (mapping_path m) (with_points path)
    above_prefix m h = grind (arith, same_print, prefix_of)

    -- what has a resource before the path is a mapping above it
    found_above : (prefix r : List ℕ) → IsPrefix prefix (with_points path) → resource_at s.mappings prefix ≡ Some r
        → (m : MappingTree) × Contains s.mappings m × IsAbove m path × (mapping_path m ≡ prefix) × (mapping_home m ≡ r)
    found_above prefix r is_prefix has =
        let f = found_in mapping_path mapping_home s.mappings prefix r has in
        let names = path_of f.item in
        let plain = path_plain sources unit s is path i at in
        let there = subst (λ (t : List ℕ). IsPrefix t (with_points path)) (sym f.named ∙ sym (same_print names)) is_prefix in
        grind (arith, prefix_has_name, path_some, goes_on, mapping_plain)

    longer : (a b : MappingTree) → IsAbove a path → IsAbove b path → length (path_of a) ≤ length (path_of b) → length (mapping_path a) + length (path_of b) ≤ length (mapping_path b) + length (path_of a)
    longer a b above other fewer = text_lengths (path_of a) (path_of b) above.inner other.inner above.written (sym above.goes_on ∙ other.goes_on) fewer

    pub home_there : (r : List ℕ) → IsMappedTo s path r → IsNearest (resource_at s.mappings) (with_points path) (Some r)
    home_there r h = (
      mapping_path h.mapping,
      above_prefix h.mapping h.above,
      mapped_there h.mapping h.listed ∙ ap (λ (q : List ℕ). Some q) h.names,
      λ other prefix more. by_option (resource_at s.mappings other) (λ none. none) (λ q e.
          let f = found_above other q prefix e in
          let fewer = h.nearest f.0 f.1 f.2 in
          absurd (omega (arith, more, fewer, longer f.0 h.mapping f.2 h.above fewer, ap length f.3))),
    )

    pub mapped_to : (r : List ℕ) → IsNearest (resource_at s.mappings) (with_points path) (Some r) → IsMappedTo s path r
    mapped_to r (prefix, is_prefix, has, farther) =
        let f = found_above prefix r is_prefix has in
        record {
          mapping = f.0;
          listed = f.1;
          above = f.2;
          nearest = λ other listed above. elim (dec_lt (length (path_of f.0)) (length (path_of other))) [
            | Prim.yes below ↦
                let more = longer f.0 other f.2 above (omega arith) in
                let none = farther (mapping_path other) (above_prefix other above) (omega (arith, below, more, ap length f.3)) in
                absurd (let no : None ≡ Some (mapping_home other) = sym none ∙ mapped_there other listed in cc)
            | Prim.no above_it ↦ omega arith
          ];
          names = f.4;
        }

    -- if no mapping is of it or above it
    pub not_mapped : IsNearest (resource_at s.mappings) (with_points path) None → (m : MappingTree) → Contains s.mappings m → ¬ IsAbove m path
    not_mapped none m c h = absurd (let no : None ≡ Some (mapping_home m) = sym (none (mapping_path m) (above_prefix m h)) ∙ mapped_there m c in cc)
