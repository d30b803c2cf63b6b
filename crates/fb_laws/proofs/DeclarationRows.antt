-- Each code of declarations, by what its list of faults has.
use Rattle.fb_laws.proofs.Common.{◌≡◌, ℕ, true, false, not, ◌&&◌, and_parts, List, [], ◌∷◌, Option, Some, None, refl, sym, ap, ◌∙◌, subst, true≢false, arith, Contains, enumerate_from, slice_get, option_map_or, not_true, Span, NameUse, unit_kind_of, ConstantTree, DeclTree, InstanceTree, TypeTree, VariablesTree, block_type, adapter_type, subapplication_type, system_configuration, structure_type, one_value, value_list, value_span, TypeForm, TypeUse, UnitKind, Role, Carries, carried_of, Sources, tree_at, type_in, Code, Duplicate, Literal, MixedKind, NameDiffers, StructRecursive, UnknownType, WithUnknown, WrongKind, Fault, class_of_name, class_of_simple, class_of_type, is_free, takes, declaration_faults, declared_name, duplicate_faults, iface_faults_of, literal_faults_of, mixed_faults, name_faults, space_duplicates, variables_of, with_faults_of, fault_at, constant_faults, fits_alone, initial_faults, list_faults, literal_fault, is_same, stands_for, variables_in, DuplicatesAreReported, HasDuplicate, HasMixedKind, HasOtherName, HasSelfCarrying, HasUnknownType, HasUnknownWith, HasWrongKind, IsDeclaredAt, IsMisfit, MisfitsAreReported, MixedKindsAreReported, OtherNamesAreReported, RecursiveStructuresAreReported, UnknownTypesAreReported, Suits, UnknownWithsAreReported, WrongKindsAreReported, no_array, no_list, AreDeclaredIn, fields_of_structure, of_adapter, of_block, of_subapplication, variables_of_type, spaces_of, instance_faults, instances_of, suits, type_fault, type_faults, contains_filter, contains_flat_map, contains_here, contains_map, contains_nothing, contains_single, origin_in_flat_map, origin_in_map, in_unless, in_written, passes_in_filter, unless, written, earlier_name, in_places, same_exact, same_itself, carried_is_all, Contains-has, has-Contains, filter, Simple}
use Rattle.fb_laws.proofs.{Lists.{iff, of_either, in_joined, in_where, where_passes}, RuleLemmas.{judged, not_free, not_taken, untaken}, SpaceLemmas.{known_space, told_space}}
use Rattle.fb_deploy.specs.{Iface.Names.{is_repeated, repeated}, Iface.Recursion.{carries_itself, recursion_faults}, Iface.Withs.{goes_along, event_withs, with_faults}}
use Rattle.fb_laws.specs.Declarations.{HasMisfit, alone, element}
use Rattle.fb_deploy.proofs.Iface.DuplicateLemmas.{duplicate_reported}
use Rattle.fb_tree.specs.declared.interface.TypeForm.TheVariants as forms

-- the kinds of types

pub not_suited : (role : Role) (kind : UnitKind) → suits role kind ≡ false → ¬ Suits role kind
not_suited role kind e is = grind arith

unsuited : (role : Role) (kind : UnitKind) → ¬ Suits role kind → suits role kind ≡ false
unsuited role kind none = grind (arith, Suits.plug, Suits.socket, Suits.block, Suits.subapplication)

-- what is so where a unit has a fault of this code
abbrev pub Has : Code → Sources → List ℕ → Span → Type 0
Has NameDiffers = HasOtherName
Has Duplicate = HasDuplicate
Has MixedKind = HasMixedKind
Has UnknownType = HasUnknownType
Has WrongKind = HasWrongKind
Has WithUnknown = HasUnknownWith
Has Literal = HasMisfit
Has StructRecursive = HasSelfCarrying
Has code = λ sources unit span. ⊥

-- names after WITH

withs_by_type : (decl : DeclTree) → with_faults_of decl ≡ option_map_or (λ d. with_faults d.interface) (type_in decl) []
withs_by_type decl = grind (arith, block_type)

-- constants

pub declared_in : (decl : DeclTree) (v : VariablesTree) → Contains (variables_of decl) v → AreDeclaredIn decl v
declared_in (block_type d) v c = variables_of_type (of_block d) c
declared_in (adapter_type d) v c = variables_of_type (of_adapter d) c
declared_in (subapplication_type d) v c = variables_of_type (of_subapplication d) c
declared_in (system_configuration s) v c = absurd (contains_nothing v c)
declared_in (structure_type s) v c = fields_of_structure c

pub among_declared : (decl : DeclTree) (v : VariablesTree) → AreDeclaredIn decl v → Contains (variables_of decl) v
among_declared decl v declared = grind arith

abbrev Misfits : TypeUse → ConstantTree → Fault → Type 0
Misfits used constant f = (f.code ≡ Literal) × IsMisfit used constant f.span

-- where a constant doesn't fit
pub misfit_origin : (used : TypeUse) (constant : ConstantTree) (f : Fault) → Contains (constant_faults used constant) f → Misfits used constant f
misfit_origin used (one_value v) f c =
    let fails = in_unless (fits_alone used.form (class_of_type used) (class_of_simple v)) (literal_fault (value_span v)) f c in
    subst (Misfits used (one_value v)) fails.1 (refl, grind (arith, no_list, alone, not_free, not_taken))
misfit_origin used (value_list values span) f c = by used.form refl c
  where
    by : (form : TypeForm) → used.form ≡ form → Contains (list_faults form used values span) f → Misfits used (value_list values span) f
    by forms.Array e h =
        let class = class_of_name used.name.name in
        let n = origin_in_map (λ (v : Simple). literal_fault (value_span v)) (filter (λ v. not (takes class (class_of_simple v))) values) f h in
        let p = passes_in_filter (λ (v : Simple). not (takes class (class_of_simple v))) values n.origin n.among in
        let fails = not_taken class (class_of_simple n.origin) (not_true (takes class (class_of_simple n.origin)) p.passes) in
        subst (Misfits used (value_list values span)) n.gives (refl, element e p.among fails)
    by o e h =
        let fails = in_unless (is_free (class_of_type used)) (literal_fault span) f h in
        subst (Misfits used (value_list values span)) fails.1 (refl, no_array (λ is. cc) (not_free (class_of_type used) fails.0))

pub misfit_reported : (used : TypeUse) (constant : ConstantTree) (span : Span) → IsMisfit used constant span → Contains (constant_faults used constant) (literal_fault span)
misfit_reported used (one_value v) span (alone other fails) = grind (arith, unless, untaken)
misfit_reported used (one_value v) span (no_list e fails) = grind (arith, unless, judged)
misfit_reported used (value_list values s) span (element {v = v} e among fails) =
    let class = class_of_name used.name.name in
    let one = contains_map (λ (v : Simple). literal_fault (value_span v)) (filter (λ v. not (takes class (class_of_simple v))) values) v (contains_filter (λ (v : Simple). not (takes class (class_of_simple v))) values v among (ap not (untaken class (class_of_simple v) fails))) in
    rw e one
misfit_reported used (value_list values s) span (no_array other fails) = grind (arith, unless, judged)

-- what carries itself

carried_by_itself : (sources : Sources) (unit : List ℕ) → carries_itself sources unit ≡ true → Carries sources unit unit
carried_by_itself sources unit e =
    let some = ((carried_is_all sources (unit ∷ [])).1 unit).0 (Contains-has unit (carried_of sources (unit ∷ [])) e) in
    subst (λ (u : List ℕ). Carries sources u unit) (sym (contains_single unit some.0 some.1)) some.2

is_found_there : (sources : Sources) (unit : List ℕ) → Carries sources unit unit → carries_itself sources unit ≡ true
is_found_there sources unit r = has-Contains unit (carried_of sources (unit ∷ [])) (((carried_is_all sources (unit ∷ [])).1 unit).1 (unit, contains_here unit [], r))

-- the faults of a declaration, list by list

module _ (sources : Sources) (unit : List ℕ) where
  abbrev Finds : Fault → Type 0
  Finds f = Has f.code sources unit f.span

  mixed_found : (decl : DeclTree) → IsDeclaredAt sources unit decl → (f : Fault) → Contains (mixed_faults decl) f → Finds f
  mixed_found (block_type d) declared f c =
      let both = in_where (d.chart.is_written && d.network.is_written) (fault_at MixedKind d.name) f c in
      let parts = and_parts d.chart.is_written d.network.is_written both.0 in
      subst Finds both.1 (record { block = d; declared = declared; has_states = parts.0; has_network = parts.1; place = refl })
  mixed_found decl declared f c = absurd (contains_nothing f c)

  recursion_found : (decl : DeclTree) → IsDeclaredAt sources unit decl → (f : Fault) → Contains (recursion_faults sources unit decl) f → Finds f
  recursion_found (structure_type s) declared f c =
      let found = in_where (carries_itself sources unit) (fault_at StructRecursive s.name) f c in
      subst Finds found.1 (record { structure = s; declared = declared; carries = carried_by_itself sources unit found.0; place = refl })
  recursion_found o declared f c = absurd (contains_nothing f c)

  module _ (decl : DeclTree) (declared : IsDeclaredAt sources unit decl) where
    name_found : (f : Fault) → Contains (name_faults unit decl) f → Finds f
    name_found f c =
        let differs = in_unless (is_same (declared_name decl).name unit) (fault_at NameDiffers (declared_name decl)) f c in
        subst Finds differs.1 (record { decl = decl; declared = declared; differs = λ same. true≢false (sym (same_itself (declared_name decl).name unit same) ∙ differs.0); place = refl })

    duplicate_found : (f : Fault) → Contains (duplicate_faults decl) f → Finds f
    duplicate_found f c =
        let s = origin_in_flat_map space_duplicates (spaces_of decl) f c in
        let n = origin_in_map (fault_at Duplicate) (repeated s.origin) f s.has in
        let p = origin_in_map (λ (placed : ℕ × NameUse). placed.1) (filter (is_repeated s.origin) (enumerate_from 0 s.origin)) n.origin n.among in
        let r = passes_in_filter (is_repeated s.origin) (enumerate_from 0 s.origin) p.origin p.among in
        let j = in_places 0 s.origin p.origin r.among in
        let number : p.origin.0 ≡ j.0 = omega (arith, j.1) in
        let at = ap (slice_get s.origin) number ∙ j.2 in
        let before = earlier_name s.origin p.origin.0 p.origin.1.name r.passes in
        subst Finds (ap (fault_at Duplicate) p.gives ∙ n.gives)
        (record { decl = decl; declared = declared; space = s.origin; is_space = known_space decl s.origin p.origin.0 p.origin.1 s.among at; earlier = before.earlier; later = p.origin.0; before = before.before; first = before.first; again = p.origin.1; first_at = before.first_at; again_at = at; same = before.same; place = refl })

    type_found : (f : Fault) → Contains (type_faults sources decl) f → Finds f
    type_found f c =
        let i = origin_in_flat_map (instance_faults sources) (instances_of decl) f c in
        (elim (tree_at sources i.origin.type_name.name) as (λ type. tree_at sources i.origin.type_name.name ≡ type → Contains (type_fault i.origin.role i.origin.type_name type) f → Finds f) [ None ↦ λ e h. subst Finds (contains_single (fault_at UnknownType i.origin.type_name) f h) (search) | Some type ↦ λ e h. let fails = in_unless (suits i.origin.role (unit_kind_of type)) (fault_at WrongKind i.origin.type_name) f h in subst Finds fails.1 (search not_suited) ]) refl i.has

    with_found : (f : Fault) → Contains (with_faults_of decl) f → Finds f
    with_found f c =
        let t = in_written (λ (d : TypeTree). with_faults d.interface) (type_in decl) f (subst (λ (l : List Fault). Contains l f) (withs_by_type decl) c) in
        let variable = stands_for (variables_in t.item.interface) in
        let e = origin_in_flat_map (event_withs variable) t.item.interface.events f t.has in
        let n = origin_in_map (fault_at WithUnknown) (filter (λ w. not (goes_along e.origin.side (variable w.name))) e.origin.with) f e.has in
        let p = passes_in_filter (λ w. not (goes_along e.origin.side (variable w.name))) e.origin.with n.origin n.among in
        let fails = not_true (goes_along e.origin.side (variable n.origin.name)) p.passes in
        subst Finds n.gives
        (record { decl = decl; declared = declared; type = t.item; is_type = t.is; event = e.origin; among = e.among; name = n.origin; behind = p.among; no_data = λ v is. sym (ap (goes_along e.origin.side) is) ∙ fails; place = refl })

    literal_found : (f : Fault) → Contains (literal_faults_of decl) f → Finds f
    literal_found f c =
        let v = origin_in_flat_map initial_faults (variables_of decl) f c in
        let w = in_written (constant_faults v.origin.type_use) v.origin.initial f v.has in
        let m = misfit_origin v.origin.type_use w.item f w.has in
        subst (λ (code : Code). Has code sources unit f.span) (sym m.0)
        (record { decl = decl; declared = declared; variables = v.origin; among = declared_in decl v.origin v.among; initial = w.item; written = w.is; misfit = m.1 })

    declared_found : (f : Fault) → Contains (declaration_faults sources unit (Some decl)) f → Finds f
    declared_found = of_either _ _ (of_either _ _ (of_either _ _ (of_either _ _ (of_either _ _ (of_either _ _ name_found duplicate_found) (mixed_found decl declared)) type_found) with_found) literal_found) (recursion_found decl declared)

    -- and the other way, a fault of the list at this place
    reported : {code : Code} {span there : Span} (place : ℕ) (list : List Fault) → slice_get (name_faults unit decl ∷ duplicate_faults decl ∷ mixed_faults decl ∷ type_faults sources decl ∷ with_faults_of decl ∷ literal_faults_of decl ∷ recursion_faults sources unit decl ∷ []) place ≡ Some list → span ≡ there → Contains list (record { code = code; span = there }) → Contains (iface_faults_of sources unit) (record { code = code; span = span })
    reported {code = code} {span = span} place list e at c =
        let others = duplicate_faults decl ∷ mixed_faults decl ∷ type_faults sources decl ∷ with_faults_of decl ∷ literal_faults_of decl ∷ recursion_faults sources unit decl ∷ [] in
        rw declared (in_joined (name_faults unit decl) others place list (record { code = code; span = span }) e (rw at c))

  -- a fault says what its code means
  pub found : (f : Fault) → Contains (iface_faults_of sources unit) f → Finds f
  found f c = grind (arith, declared_found, contains_nothing)

pub other_names : OtherNamesAreReported
other_names sources unit span = iff (found sources unit _) (λ h. grind (arith, reported, unless, same_exact))

pub duplicates : DuplicatesAreReported
duplicates sources unit span =
    iff (found sources unit _)
    (λ h. reported sources unit h.decl h.declared 1 (duplicate_faults h.decl) refl h.place (duplicate_reported h.decl h.space h.later h.again (told_space h.decl h.space h.is_space) h.again_at (search)))

pub mixed_kinds : MixedKindsAreReported
mixed_kinds sources unit span =
    iff (found sources unit _)
    (λ h. reported sources unit (block_type h.block) h.declared 2 (mixed_faults (block_type h.block)) refl h.place (grind (arith, where_passes, contains_here)))

-- a fault of the type of an instance
in_types : (sources : Sources) (decl : DeclTree) (i : InstanceTree) (type : Option DeclTree) (f : Fault) → Contains (instances_of decl) i → tree_at sources i.type_name.name ≡ type → Contains (type_fault i.role i.type_name type) f → Contains (type_faults sources decl) f
in_types sources decl i type f among e c = contains_flat_map (instance_faults sources) (instances_of decl) i f among (rw e c)

pub unknown_types : UnknownTypesAreReported
unknown_types sources unit span =
    iff (found sources unit _)
    (λ h. reported sources unit h.decl h.declared 3 (type_faults sources h.decl) refl h.place (search (in_types, contains_here)))

pub wrong_kinds : WrongKindsAreReported
wrong_kinds sources unit span =
    iff (found sources unit _)
    (λ h. reported sources unit h.decl h.declared 3 (type_faults sources h.decl) refl h.place (search (in_types, unless, unsuited)))

pub unknown_withs : UnknownWithsAreReported
unknown_withs sources unit span =
    iff (found sources unit _)
    (λ h. let variable = stands_for (variables_in h.type.interface) in
    let uncarried = λ (w : NameUse). not (goes_along h.event.side (variable w.name)) in
    let fails : uncarried h.name ≡ true = grind arith in
    let one = contains_map (fault_at WithUnknown) (filter uncarried h.event.with) h.name (contains_filter uncarried h.event.with h.name h.behind fails) in
    let listed = contains_flat_map (event_withs variable) h.type.interface.events h.event (fault_at WithUnknown h.name) h.among one in
    reported sources unit h.decl h.declared 4 (with_faults_of h.decl) refl h.place (rw withs_by_type (written (λ (d : TypeTree). with_faults d.interface) (type_in h.decl) h.type (fault_at WithUnknown h.name) h.is_type listed)))

pub misfits_reported : MisfitsAreReported
misfits_reported sources unit span =
    iff (found sources unit _)
    (λ h. reported sources unit h.decl h.declared 5 (literal_faults_of h.decl) refl refl (search (contains_flat_map, among_declared, written, misfit_reported)))

pub recursive_structures : RecursiveStructuresAreReported
recursive_structures sources unit span =
    iff (found sources unit _)
    (λ h. reported sources unit (structure_type h.structure) h.declared 6 (recursion_faults sources unit (structure_type h.structure)) refl h.place (where_passes (carries_itself sources unit) (fault_at StructRecursive h.structure.name) (is_found_there sources unit h.carries)))
