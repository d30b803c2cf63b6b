-- What a unit is made of is what it rests on, and what blocks its net is reported there.
use Rattle.fb_laws.proofs.Common.{arith, ◌≡◌, ◌≢◌, ℕ, false, List, [], ◌∷◌, Option, Some, None, inl, inr, refl, sym, ap, ◌∙◌, subst, get, Contains, option_and_then, Contains-append_cases, is_elementary, contains_flat_map, contains_here, contains_map, contains_nothing, origin_in_flat_map, origin_in_map, passes_in_filter, instance_types, value_types, variable_types, ApplicationTree, DeclTree, InstanceTree, TypeTree, VariablesTree, adapter_type, block_type, structure_type, subapplication_type, system_configuration, Rests, itself, Sources, mentions_at, parts_at, parts_in, tree_at, tree_of, values_at, values_in, variables_of, instances_of, UnknownType, Fault, faults_of, IsNet, IsWhole, PlainNet, blocked, flat_net, recursive, too_large, part_mention, rests_more, value_mention, net_at_is, no_names_sorted, HasUnknownType, IsDeclaredAt, AreDeclaredIn, IsHeldIn, IsType, instance_of_application, instance_of_type, of_adapter, of_block, of_subapplication, Declarations, filter, from_names}
use Rattle.fb_laws.proofs.{Lists.{no_members}, PathHolders.{types_by_instances, part_among}, CarriedTypes.{is_plain, no_elementary, value_of}}
use Rattle.fb_laws.proofs.{DeclarationRows.{among_declared, declared_in, unknown_types}, PartLemmas.{whole_units}}
use Rattle.fb_deploy.specs.{Library.Rests.{through}, Flatten.Blocking.{AreThose, IsBlocking}}
use Rattle.fb_types.specs.Reaches.{Reaches, directly, onward}
use Rattle.fb_types.proofs.StackLemmas.{reaches_more}
use Rattle.fb_laws.specs.MadeOf.{BlockedIsTold, BlockedUnitsHaveFaultsBelow, HasFaultBelow, HasNoFaultsBelow, Holds, IsInTheWay, IsMadeOf, OtherNetsHaveNoFaultsBelow, OtherNetsHoldNothingInItself, RecursiveIsTold, WholeUnitsHaveNoFaultsBelow, absent_type, faulty_unit, inner_part, own_part, own_unit, type_of_part, type_of_value}

-- ---- declarations

listed_held : (decl : DeclTree) (i : InstanceTree) → Contains (instances_of decl) i → IsHeldIn decl i
listed_held (block_type d) i c = instance_of_type (of_block d) c
listed_held (adapter_type d) i c = instance_of_type (of_adapter d) c
listed_held (subapplication_type d) i c = instance_of_type (of_subapplication d) c
listed_held (system_configuration s) i c = let a = origin_in_flat_map (λ (a : ApplicationTree). a.network.instances) s.applications i c in instance_of_application a.among a.has
listed_held (structure_type s) i c = absurd (contains_nothing i c)

of_type_held : (decl : DeclTree) (type : TypeTree) (i : InstanceTree) → IsType decl type → Contains type.network.instances i → Contains (instances_of decl) i
of_type_held decl type i is c = grind (arith, of_block)

held_listed : (decl : DeclTree) (i : InstanceTree) → IsHeldIn decl i → Contains (instances_of decl) i
held_listed decl i (instance_of_type {type = type} is c) = of_type_held decl type i is c
held_listed decl i (instance_of_application {s = s} {application = a} among c) = contains_flat_map (λ (b : ApplicationTree). b.network.instances) s.applications a i among c

types_by_variables : (decl : DeclTree) → value_types decl ≡ variable_types (variables_of decl)
types_by_variables decl = grind (arith, block_type)

type_among : (decl : DeclTree) (v : VariablesTree) → AreDeclaredIn decl v → Contains (value_types decl) v.type_use.name.name
type_among decl v declared =
    subst (λ (l : List (List ℕ)). Contains l v.type_use.name.name) (sym (types_by_variables decl))
    (contains_map (λ (w : VariablesTree). w.type_use.name.name) (variables_of decl) v (among_declared decl v declared))

part_held : (sources : Sources) (holder : List ℕ) (decl : DeclTree) (i : InstanceTree) → IsDeclaredAt sources holder decl → IsHeldIn decl i → Contains (parts_at sources holder) i.type_name.name
part_held sources holder decl i is held = part_among sources holder decl i is (held_listed decl i held)

-- what is so of the types of instances in the text of a unit is so of what it has as parts
of_parts : (sources : Sources) (holder : List ℕ) (P : List ℕ → Type 0) → ((decl : DeclTree) (i : InstanceTree) → IsDeclaredAt sources holder decl → IsHeldIn decl i → P i.type_name.name) → (name : List ℕ) → Contains (parts_at sources holder) name → P name
of_parts sources holder P each name = by (tree_at sources holder) refl
  where
    by : (tree : Option DeclTree) → tree_at sources holder ≡ tree → Contains (parts_in tree) name → P name
    by None is c = absurd (contains_nothing name c)
    by (Some decl) is c =
        let listed = subst (λ (l : List (List ℕ)). Contains l name) (types_by_instances decl) (from_names (instance_types decl) name c) in
        let i = origin_in_map (λ (i : InstanceTree). i.type_name.name) (instances_of decl) name listed in
        subst P i.gives (each decl i.origin is (listed_held decl i.origin i.among))

-- ---- what a unit holds

module _ (sources : Sources) (unit : List ℕ) where
  inner_held : (holder : List ℕ) → Holds sources unit holder → (name : List ℕ) → Contains (parts_at sources holder) name → Holds sources unit name
  inner_held holder holds = of_parts sources holder (Holds sources unit) (λ decl i. inner_part decl i holds)

  holds_on : {holder name : List ℕ} → Holds sources unit holder → Reaches sources holder name → Holds sources unit name
  holds_on {holder = holder} {name = name} holds (directly m) = inner_held holder holds name m
  holds_on {holder = holder} holds (onward {w = w} m r) = holds_on (inner_held holder holds w m) r

  reaches_holds : {name : List ℕ} → Reaches sources unit name → Holds sources unit name
  reaches_holds {name = name} (directly m) = of_parts sources unit (Holds sources unit) own_part name m
  reaches_holds (onward {w = w} m r) = holds_on (of_parts sources unit (Holds sources unit) own_part w m) r

  holds_reaches : {name : List ℕ} → Holds sources unit name → Reaches sources unit name
  holds_reaches (own_part decl i is held) = directly (part_held sources unit decl i is held)
  holds_reaches (inner_part {holder = holder} decl i holds is held) = reaches_more (holds_reaches holds) (part_held sources holder decl i is held)

-- ---- what a unit is made of

module _ (sources : Sources) (unit : List ℕ) where
  -- a mention of what the unit is made of is something that it is made of

  value_made : (holder name : List ℕ) → IsMadeOf sources unit holder → (tree : Option DeclTree) → tree_at sources holder ≡ tree → Contains (values_in tree) name → IsMadeOf sources unit name
  value_made holder name made None is c = absurd (contains_nothing name c)
  value_made holder name made (Some decl) is c =
      let listed = passes_in_filter is_plain (value_types decl) name (from_names (filter is_plain (value_types decl)) name c) in
      let among = subst (λ (l : List (List ℕ)). Contains l name) (types_by_variables decl) listed.among in
      let v = origin_in_map (λ (v : VariablesTree). v.type_use.name.name) (variables_of decl) name among in
      let plain : is_elementary v.origin.type_use.name.name ≡ false = ap is_elementary v.gives ∙ no_elementary sources (Some decl) name c in
      subst (λ (n : List ℕ). IsMadeOf sources unit n) v.gives (type_of_value decl v.origin made is (declared_in decl v.origin v.among) plain)

  mention_made : (holder name : List ℕ) → IsMadeOf sources unit holder → Contains (mentions_at sources holder) name → IsMadeOf sources unit name
  mention_made holder name made m =
      elim (Contains-append_cases (parts_at sources holder) (values_at sources holder) name m) [ inl c ↦ of_parts sources holder (IsMadeOf sources unit) (λ decl i. type_of_part decl i made) name c | inr c ↦ value_made holder name made (tree_at sources holder) refl c ]

  made_on : {holder name : List ℕ} → IsMadeOf sources unit holder → Rests sources holder name → IsMadeOf sources unit name
  made_on made itself = made
  made_on {holder = holder} made (through {w = w} m r) = made_on (mention_made holder w made m) r

  rests_made : {name : List ℕ} → Rests sources unit name → IsMadeOf sources unit name
  rests_made r = made_on own_unit r

  -- and the other way round

  made_rests : {name : List ℕ} → IsMadeOf sources unit name → Rests sources unit name
  made_rests own_unit = itself
  made_rests (type_of_part {holder = holder} decl i made is held) = rests_more (made_rests made) (part_mention sources holder i.type_name.name (part_held sources holder decl i is held))
  made_rests (type_of_value {holder = holder} decl v made is declared plain) = search (rests_more, value_mention, value_of, type_among, made_rests made)

  -- what has an instance of an absent type has a fault
  holder_faulty : (holder : List ℕ) (decl : DeclTree) (i : InstanceTree) → IsDeclaredAt sources holder decl → IsHeldIn decl i → get sources i.type_name.name ≡ None → faults_of sources holder ≢ []
  holder_faulty holder decl i is held absent none =
      let span = i.type_name.span in
      let fault : Fault = record { code = UnknownType; span = span } in
      let unknown : HasUnknownType sources holder span = record { decl = decl; declared = is; instance = i; among = held_listed decl i held; unknown = ap (option_and_then tree_of) absent; place = refl } in
      let found = (whole_units sources holder decl is fault).1 (record { part = Declarations; reported = (unknown_types sources holder span).1 unknown }) in
      contains_nothing fault (subst (λ (l : List Fault). Contains l fault) none found)

  -- what blocks the unit is in the way, and what is in the way blocks it

  in_the_way : (name : List ℕ) → Rests sources unit name → IsBlocking sources unit name → IsInTheWay sources unit name
  in_the_way name r (inl faulty) = faulty_unit (rests_made r) faulty
  in_the_way name r (inr (absent, (holder, below, part))) =
      of_parts sources holder (λ n. get sources n ≡ None → IsInTheWay sources unit n) (λ decl i. absent_type decl i (rests_made below)) name part absent

  way_below : {name : List ℕ} → IsInTheWay sources unit name → Rests sources unit name
  way_below way = grind (arith, faulty_unit, made_rests, absent_type, type_of_part)

  way_blocks : {name : List ℕ} → IsInTheWay sources unit name → IsBlocking sources unit name
  way_blocks {name} way = grind (arith, made_rests, part_held)

  way_faulty : {name : List ℕ} → IsInTheWay sources unit name → HasFaultBelow sources unit
  way_faulty way = grind (arith, faulty_unit, absent_type, holder_faulty)

  -- ---- whole units

  none_below : IsWhole sources unit → HasNoFaultsBelow sources unit
  none_below whole name made = no_members (faults_of sources name) (λ f c. contains_nothing name ((whole.members name).1 (made_rests made, inl (λ none. contains_nothing f (subst (λ (l : List Fault). Contains l f) none c)))))

  whole_of_none : HasNoFaultsBelow sources unit → IsWhole sources unit
  whole_of_none none = record { sorted = no_names_sorted; members = λ v. (λ c. absurd (contains_nothing v c), λ b. let found = way_faulty (in_the_way v b.0 b.1) in absurd (found.faulty (none found.name found.below))) }

-- ---- laws

pub whole_below : WholeUnitsHaveNoFaultsBelow
whole_below sources unit = (none_below sources unit, whole_of_none sources unit)

pub blocked_told : BlockedIsTold
blocked_told sources unit names is name =
    let those = ((net_at_is sources unit (blocked names)).0 is).1.0 in (
      λ c. let b = (those.members name).0 c in in_the_way sources unit name b.0 b.1,
      λ w. (those.members name).1 (way_below sources unit w, way_blocks sources unit w),
    )

pub blocked_faulty : BlockedUnitsHaveFaultsBelow
blocked_faulty sources unit names is = let net = ((net_at_is sources unit (blocked names)).0 is).1 in by names net.0 net.1
  where
    by : (names : List (List ℕ)) → AreThose sources unit (IsBlocking sources unit) names → names ≢ [] → HasFaultBelow sources unit
    by [] those some = absurd (some refl)
    by (name ∷ others) those some = let b = (those.members name).0 (contains_here name others) in way_faulty sources unit (in_the_way sources unit name b.0 b.1)

pub others_faultless : OtherNetsHaveNoFaultsBelow
others_faultless sources unit net is other = by net ((net_at_is sources unit net).0 is).1 other
  where
    by : (net : PlainNet) → IsNet sources unit net → ((names : List (List ℕ)) → net ≢ blocked names) → HasNoFaultsBelow sources unit
    by net is other = grind (arith, blocked, recursive, none_below, too_large, flat_net)

pub recursive_told : RecursiveIsTold
recursive_told sources unit names is name =
    let those = ((net_at_is sources unit (recursive names)).0 is).1.1 in (
      λ c. let r = (those.members name).0 c in (rests_made sources unit r.0, reaches_holds sources name r.1),
      λ h. (those.members name).1 (made_rests sources unit h.0, holds_reaches sources name h.1),
    )

pub others_finite : OtherNetsHoldNothingInItself
others_finite sources unit net is unblocked finite = by net ((net_at_is sources unit net).0 is).1 unblocked finite
  where
    by : (net : PlainNet) → IsNet sources unit net → ((names : List (List ℕ)) → net ≢ blocked names) → ((names : List (List ℕ)) → net ≢ recursive names) → (name : List ℕ) → IsMadeOf sources unit name → Holds sources name name → ⊥
    by net is unblocked finite name made holds = grind (arith, blocked, recursive, too_large, flat_net, contains_nothing, made_rests, holds_reaches)
