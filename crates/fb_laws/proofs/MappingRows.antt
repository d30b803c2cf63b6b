-- Each code of mappings, by what its list of faults has.
use Rattle.fb_laws.proofs.Common.{◌≡◌, ℕ, List, ◌∷◌, sym, ap, ◌∙◌, subst, Bool, false, Option, Some, refl, true≢false, ◌≢◌, [], length, bytes_eq, find, option_map, passes_in_find, false_from_ne_true, ◌-◌, arith, Contains-append_left, Contains-append_right, Contains, flat_map, slice_get, option_map_or, NameUse, Span, DeclTree, DeviceTree, MappingTree, ResourceTree, SystemTree, system_configuration, declared_mapping_faults, has_resource, resource_names, home_faults, home_span, mapping_faults_of, resource_faults, second_mappings, system_mapping_faults, has_name, Code, MappedTwice, NoSuchResource, Fault, Sources, tree_at, PathUse, path_of_names, contains_flat_map, contains_here, contains_map, contains_nothing, contains_single, origin_in_flat_map, origin_in_map, none_named, not_named, HasLostMapping, HasSecondMapping, IsLost, IsSystemAt, MappingsHaveHomes, MappingsHaveOwnPaths, no_device, no_resource, last_of, place_of_path, before_first, ◌↔◌}
use Rattle.fb_laws.proofs.{HomeLemmas.{bytes_same, same_bytes, same_found}, Lists.{iff, of_either, by_option}, RepeatedPaths.{repeat_origin, repeat_reported}}
use Rattle.fb_laws.proofs.Lists.{before_fails, first_found, found_none, found_split, none_found}

-- what is so where a unit has a fault of this code
abbrev pub Has : Code → Sources → List ℕ → Span → Type 0
Has MappedTwice = HasSecondMapping
Has NoSuchResource = HasLostMapping
Has code = λ sources unit span. ⊥

abbrev mapping_path : MappingTree → PathUse
mapping_path m = path_of_names m.path

-- the place of a path

last_there : (first : NameUse) (others : List NameUse) → slice_get (first ∷ others) (length others) ≡ Some (last_of first others)
last_there first [] = refl
last_there first (next ∷ others) = last_there next others

path_place : (names : List NameUse) → (path_of_names names).span ≡ place_of_path names
path_place [] = refl
path_place (first ∷ others) =
    let seat : length (first ∷ others) - 1 ≡ length others = omega arith in
    grind (arith, last_there)

-- mappings to no resource

abbrev pub is_named : List ℕ → DeviceTree → Bool
is_named name d = bytes_eq d.name.name name

-- whether a device that is found has the name
abbrev pub holds : Option DeviceTree → List ℕ → Bool
holds found name = option_map_or (λ names. has_name names name) (option_map resource_names found) false

pub holds_first : (s : SystemTree) (m : MappingTree) → has_resource s.devices m.device.name m.resource.name ≡ holds (find (is_named m.device.name) s.devices) m.resource.name
holds_first s m =
    ap (λ (o : Option (List NameUse)). option_map_or (λ names. has_name names m.resource.name) o false)
    (sym (same_found (λ (d : DeviceTree). d.name) resource_names s.devices m.device.name))

not_called : (name : List ℕ) (d : DeviceTree) → is_named name d ≡ false ↔ (d.name.name ≢ name)
not_called name d = iff (λ other same. true≢false (sym (bytes_same d.name.name name same) ∙ other)) (λ other. false_from_ne_true (is_named name d) (λ yes. other (same_bytes d.name.name name yes)))

pub lost_where : (s : SystemTree) (m : MappingTree) → has_resource s.devices m.device.name m.resource.name ≡ false → IsLost s m
lost_where s m e =
    let test = is_named m.device.name in
    by_option (find test s.devices) (λ none. no_device (λ d c. (not_called m.device.name d).0 (found_none test s.devices none d c))) (λ d g.
    let o = found_split test s.devices d g in
    let none = ap (λ (o : Option DeviceTree). holds o m.resource.name) (sym g) ∙ sym (holds_first s m) ∙ e in
    no_resource d (record {
      before = before_first test s.devices;
      after = o.0;
      listed = o.1;
      named = same_bytes d.name.name m.device.name (passes_in_find test s.devices d g).passes;
      none_before = λ x c. (not_called m.device.name x).0 (before_fails test s.devices x c);
    }) (λ r c. not_named (resource_names d) m.resource.name none r.name (contains_map (λ (r : ResourceTree). r.name) d.resources r c)))

lost_found_where : (s : SystemTree) (m : MappingTree) → IsLost s m → has_resource s.devices m.device.name m.resource.name ≡ false
lost_found_where s m (no_device none) =
    holds_first s m
    ∙ ap (λ (o : Option DeviceTree). holds o m.resource.name) (none_found (is_named m.device.name) s.devices (λ d c. (not_called m.device.name d).1 (none d c)))
lost_found_where s m (no_resource d f none) =
    let test = is_named m.device.name in
    let first = first_found test f.before d f.after (λ x c. (not_called m.device.name x).1 (f.none_before x c)) (bytes_same d.name.name m.device.name f.named) in
    holds_first s m
    ∙ ap (λ (o : Option DeviceTree). holds o m.resource.name) (ap (find test) f.listed ∙ first)
    ∙ none_named (resource_names d) m.resource.name (λ n c. let r = origin_in_map (λ (r : ResourceTree). r.name) d.resources n c in subst (λ (x : NameUse). x.name ≢ m.resource.name) r.gives (none r.origin r.among))

abbrev lost_at : MappingTree → Fault
lost_at m = record { code = NoSuchResource; span = home_span m }

-- the faults of a system's mappings, list by list

module _ (sources : Sources) (unit : List ℕ) where
  abbrev Finds : Fault → Type 0
  Finds f = Has f.code sources unit f.span

  module _ (s : SystemTree) (declared : IsSystemAt sources unit s) where
    second_found : (f : Fault) → Contains (second_mappings s.mappings) f → Finds f
    second_found f c =
        let a = repeat_origin mapping_path s.mappings MappedTwice f c in
        subst Finds a.is
        (record { system = s; declared = declared; before = a.before; again = a.item; after = a.after; listed = a.split; first = a.other; earlier = a.seen; same = a.same; place = path_place a.item.path })

    lost_found : (f : Fault) → Contains (flat_map (resource_faults s.devices) s.mappings) f → Finds f
    lost_found f c =
        let m = origin_in_flat_map (resource_faults s.devices) s.mappings f c in
        let l : (has_resource s.devices m.origin.device.name m.origin.resource.name ≡ false) × (lost_at m.origin ≡ f) = grind (arith, contains_nothing, contains_single) in
        subst Finds l.1 (record { system = s; declared = declared; mapping = m.origin; listed = m.among; lost = lost_where s m.origin l.0; starts = refl; ends = refl })

    -- and the other way
    reported : (f : Fault) → Contains (system_mapping_faults s) f → Contains (mapping_faults_of sources unit) f
    reported f c = subst (λ (o : Option DeclTree). Contains (declared_mapping_faults o) f) (sym declared) c

  -- a fault says what its code means
  pub found : (f : Fault) → Contains (mapping_faults_of sources unit) f → Finds f
  found f c =
      (elim (tree_at sources unit) as (λ o. tree_at sources unit ≡ o → Contains (declared_mapping_faults o) f → Finds f) [ Some (system_configuration s) ↦ λ e. of_either _ _ (second_found s e) (lost_found s e) f | o ↦ λ e h. absurd (contains_nothing f h) ]) refl c

pub own_paths : MappingsHaveOwnPaths
own_paths sources unit span =
    let it : Fault = record { code = MappedTwice; span = span } in
    iff (found sources unit it)
    (λ h. let at : (mapping_path h.again).span ≡ span = path_place h.again.path ∙ sym h.place in
    let one = repeat_reported mapping_path MappedTwice h.system.mappings h.before h.after h.again h.first h.listed h.earlier h.same in
    let second = subst (λ (s : Span). Contains (second_mappings h.system.mappings) (record { code = MappedTwice; span = s })) at one in
    reported sources unit h.system h.declared it (Contains-append_left _ _ it second))

pub have_homes : MappingsHaveHomes
have_homes sources unit span =
    let it : Fault = record { code = NoSuchResource; span = span } in
    iff (found sources unit it)
    (λ h. let is : lost_at h.mapping ≡ it = λ i. record { code = NoSuchResource; span = record { start = sym h.starts i; end = sym h.ends i } } in
    let fails = lost_found_where h.system h.mapping h.lost in
    let one : Contains (home_faults false h.mapping) it = subst (λ (f : Fault). Contains (lost_at h.mapping ∷ []) f) is (contains_here (lost_at h.mapping) []) in
    let lost = contains_flat_map (resource_faults h.system.devices) h.system.mappings h.mapping it h.listed (subst (λ (b : Bool). Contains (home_faults b h.mapping) it) (sym fails) one) in
    reported sources unit h.system h.declared it (Contains-append_right (second_mappings h.system.mappings) (flat_map (resource_faults h.system.devices) h.system.mappings) it lost))
