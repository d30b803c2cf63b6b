-- The types of values that references of a block type meet: it carries them, or one of its parts does, so the check knows their fields.
use Rattle.fb_laws.proofs.Common.{arith, ◌≡◌, ℕ, Bool, true, false, true≢false, cond, not, List, [], ◌∷◌, Option, Some, None, sym, ap, ◌∙◌, subst, nat_list_cmp_total, slice_cmp-IsAntisymmetric, nat_cmp-IsAntisymmetric, Contains, flat_map, Contains-append_left, Contains-append_right, not-true, is_elementary, name_cmp, NameUse, contains_filter, contains_here, contains_map, contains_nothing, origin_in_flat_map, origin_in_map, passes_in_filter, in_order-members, types_in, value_types, variable_types, DeclTree, InstanceTree, NetworkTree, StructureTree, TypeTree, VariablesTree, adapter_type, block_type, structure_type, Carries, directly, onward, bases_at, carried_of, Sources, mentions_of_tree, parts_at, parts_in, tree_at, values_at, values_in, NoFields, fields_in, fields_near, fields_of_tree, is_same, stands_for, instances_in, meanings_in_type, variables_in, variables_together, DeclaredInstance, DeclaredVariable, in_order_has, stands_for-first_ones, carried_is_all, Contains-has, has-Contains, filter, false_from_ne_true, place_from_lookup}
use Rattle.fb_laws.proofs.FirstLemmas.{got_among}
use Rattle.fb_deploy.specs.Library.Seen.{has_name}

-- what a name means is declared, under some name
declared_among : {D : Type 0} (all : List (List ℕ × D)) (q : List ℕ) (d : D) → stands_for all q ≡ Some d → (name : List ℕ) × Contains all (name, d)
declared_among all q d e = let o = place_from_lookup (λ declared. is_same declared q) all d e in (o.1, got_among all o.0 (o.1, d) o.2)

-- the type of a variable or field is one of those of the groups
typed_among : (groups : List VariablesTree) (q : List ℕ) (v : DeclaredVariable) → stands_for (flat_map variables_together groups) q ≡ Some v → Contains (variable_types groups) v.type_use.name.name
typed_among groups q v e =
    let it = declared_among (flat_map variables_together groups) q v e in
    let g = origin_in_flat_map variables_together groups (it.0, v) it.1 in
    let n = origin_in_map (λ (n : NameUse). (n.name, record { section = g.origin.section; type_use = g.origin.type_use })) g.origin.names (it.0, v) g.has in
    rw (← (ap (λ (p : List ℕ × DeclaredVariable). p.1.type_use.name.name) n.gives)) (contains_map (λ (w : VariablesTree). w.type_use.name.name) groups g.origin g.among)

-- the type of an instance is one of those of the network
part_among : (n : NetworkTree) (q : List ℕ) (i : DeclaredInstance) → stands_for (instances_in n) q ≡ Some i → Contains (types_in n.instances) i.type_name.name
part_among n q i e =
    let it = declared_among (instances_in n) q i e in
    let o = origin_in_map (λ (x : InstanceTree). (x.name.name, record { role = x.role; type_name = x.type_name })) n.instances (it.0, i) it.1 in
    let c = contains_map (λ (x : InstanceTree). x.type_name.name) n.instances o.origin o.among in
    grind arith

abbrev pub is_plain : List ℕ → Bool
is_plain name = not (is_elementary name)

module _ (sources : Sources) where
  -- a type that is not elementary is a value mention
  pub value_of : (u : List ℕ) (decl : DeclTree) → tree_at sources u ≡ Some decl → (t : List ℕ) → Contains (value_types decl) t → is_elementary t ≡ false → Contains (values_at sources u) t
  value_of u decl is t c elementary =
      subst (λ (o : Option DeclTree). Contains (values_in o) t) (sym is)
      (in_order_has (filter is_plain (value_types decl)) t (contains_filter is_plain (value_types decl) t c (ap not elementary)))

  -- and only such a type is one
  pub no_elementary : (o : Option DeclTree) (t : List ℕ) → Contains (values_in o) t → is_elementary t ≡ false
  no_elementary None t c = absurd (contains_nothing t c)
  no_elementary (Some decl) t c =
      let among = (in_order-members name_cmp nat_list_cmp_total (slice_cmp-IsAntisymmetric nat_cmp-IsAntisymmetric) (filter is_plain (value_types decl)) t).0 c in
      not-true (is_elementary t) (passes_in_filter is_plain (value_types decl) t among).passes

  none_carried : {u t : List ℕ} → Carries sources u t → is_elementary t ≡ false
  none_carried {t = t} (directly {u = u} c) = no_elementary (tree_at sources u) t c
  none_carried {t = t} (onward {w = w} before structure c) = no_elementary (tree_at sources w) t c

  module _ (unit : List ℕ) where
    abbrev carried : List (List ℕ)
    carried = carried_of sources (bases_at sources unit)

    -- the check knows the type of this name, if it has to be declared
    abbrev pub IsKnown : List ℕ → Type 0
    IsKnown name = is_elementary name ≡ false → Contains carried name

    carried_by : (u t : List ℕ) → Contains (bases_at sources unit) u → Carries sources u t → Contains carried t
    carried_by u t base c = ((carried_is_all sources (bases_at sources unit)).1 t).1 (u, base, c)

    none_listed : (name : List ℕ) → is_elementary name ≡ true → has_name carried name ≡ false
    none_listed name elementary = false_from_ne_true (has_name carried name) (λ e. true≢false (sym elementary ∙ none_carried (((carried_is_all sources (bases_at sources unit)).1 name).0 (Contains-has name carried e)).2))

    -- what may be named after it, by its declaration
    pub known_fields : (name : List ℕ) → IsKnown name → fields_near sources unit name ≡ cond (is_elementary name) NoFields (fields_of_tree (tree_at sources name))
    known_fields name known = grind (arith, none_listed, has-Contains)

    -- the type of a field of a structure that is known
    pub field_known : (name : List ℕ) (s : StructureTree) (q : List ℕ) (v : DeclaredVariable) → IsKnown name → is_elementary name ≡ false → tree_at sources name ≡ Some (structure_type s) → stands_for (fields_in s) q ≡ Some v → IsKnown v.type_use.name.name
    field_known name s q v known plain is e elementary =
        let some = ((carried_is_all sources (bases_at sources unit)).1 name).0 (known plain) in
        carried_by some.0 _ some.1 (onward some.2 (ap (λ (o : Option DeclTree). (mentions_of_tree o).is_structure) is) (value_of name (structure_type s) is _ (typed_among s.fields q v e) elementary))

    module _ (d : TypeTree) (declared : tree_at sources unit ≡ Some (block_type d)) where
      -- the type of a variable of the unit
      pub own_known : (q : List ℕ) (v : DeclaredVariable) → stands_for (meanings_in_type d).variables q ≡ Some v → IsKnown v.type_use.name.name
      own_known q v e elementary =
          carried_by unit _ (Contains-append_right (parts_at sources unit) (unit ∷ []) unit (contains_here unit []))
          (directly (value_of unit (block_type d) declared _ (typed_among d.interface.variables q v (sym (stands_for-first_ones (variables_in d.interface) q) ∙ e)) elementary))

      -- the type of data of an own plug or socket
      pub data_known : (p : List ℕ) (i : DeclaredInstance) (a : TypeTree) (q : List ℕ) (v : DeclaredVariable) → stands_for (meanings_in_type d).instances p ≡ Some i → tree_at sources i.type_name.name ≡ Some (adapter_type a) → stands_for (meanings_in_type a).variables q ≡ Some v → IsKnown v.type_use.name.name
      data_known p i a q v stands is e elementary =
          let u = i.type_name.name in
          let typed = typed_among a.interface.variables q v (sym (stands_for-first_ones (variables_in a.interface) q) ∙ e) in
          let mentioned = in_order_has (types_in d.network.instances) u (part_among d.network p i (sym (stands_for-first_ones (instances_in d.network) p) ∙ stands)) in
          let part : Contains (parts_at sources unit) u = subst (λ (o : Option DeclTree). Contains (parts_in o) u) (sym declared) mentioned in
          carried_by u _ (Contains-append_left (parts_at sources unit) (unit ∷ []) u part) (directly (value_of u (adapter_type a) is _ typed elementary))
