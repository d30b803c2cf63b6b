-- The units whose texts have what is at the paths of a sound system: these have no faults, so each name means one instance of theirs.
use Rattle.fb_laws.proofs.Common.{◌≡◌, ℕ, true, List, ◌∷◌, ◌++◌, Option, Some, refl, sym, ◌∙◌, subst, flat_map, Contains-append_left, Contains-append_right, NameUse, contains_flat_map, contains_here, contains_later, contains_map, contains_nothing, instance_types, types_in, unit_kind_of, ApplicationTree, DeclTree, DeviceTree, InstanceTree, SystemTree, TypeTree, subapplication_type, system_configuration, PartRests, on_itself, Sources, parts_at, parts_in, tree_at, chart_spaces, interface_spaces, network_spaces, resource_names, instances_of, suits, WrongKind, Fault, IsSound, parts_more, unit_faultless, sound_below, first_at, IsSystemAt, IsAtPath, in_application, inside, Contains, map, in_order_has, true_from_ne_false, arith, map-append, ap, Subapplication, []}
use Rattle.fb_laws.proofs.{DeclarationRows.{not_suited, wrong_kinds}, HomeLemmas.{same_found}}
use Rattle.fb_deploy.specs.Flatten.Nothing.{HasNoReport}
use Rattle.fb_deploy.proofs.{Flatten.NameLemmas.{AreApart, apart, distinct, stands_for_itself}, Flatten.NothingLemmas.{nothing_reported}}

-- ---- names that occur once

-- an item is the first of its name
pub first_own : {X Y : Type 0} (key : X → NameUse) (value : X → Y) (xs : List X) → AreApart (map key xs) → (x : X) → Contains xs x → first_at (λ (y : X). (key y).name) value xs (key x).name ≡ Some (value x)
first_own key value xs own x c = same_found key value xs (key x).name ∙ stands_for_itself key value xs (distinct key value xs own) x c

-- ---- units

-- the unit whose text has the instance
pub record Holder (sources : Sources) (unit : List ℕ) (i : InstanceTree) : Type 0 where
  pub name : List ℕ
  pub below : PartRests sources unit name
  pub tree : DeclTree
  pub declared : tree_at sources name ≡ Some tree
  pub among : Contains (instances_of tree) i

map_through : {X Y Z : Type 0} (f : Y → Z) (g : X → List Y) (xs : List X) → map f (flat_map g xs) ≡ flat_map (λ x. map f (g x)) xs
map_through f g [] = refl
map_through f g (x ∷ xs) = map-append f (g x) (flat_map g xs) ∙ ap (λ l. map f (g x) ++ l) (map_through f g xs)

pub types_by_instances : (decl : DeclTree) → instance_types decl ≡ types_in (instances_of decl)
types_by_instances decl = grind (arith, map_through)

pub part_among : (sources : Sources) (name : List ℕ) (tree : DeclTree) (i : InstanceTree) → tree_at sources name ≡ Some tree → Contains (instances_of tree) i → Contains (parts_at sources name) i.type_name.name
part_among sources name tree i declared c =
    subst (λ (o : Option DeclTree). Contains (parts_in o) i.type_name.name) (sym declared)
    (in_order_has (instance_types tree) i.type_name.name (rw (types_by_instances tree) (contains_map (λ (j : InstanceTree). j.type_name.name) (instances_of tree) i c)))

-- and the unit rests on the type of the instance
pub type_below : (sources : Sources) (unit : List ℕ) (i : InstanceTree) → Holder sources unit i → PartRests sources unit i.type_name.name
type_below sources unit i h = parts_more h.below (part_among sources h.name h.tree i h.declared h.among)

pub holder_of : (sources : Sources) (unit : List ℕ) (s : SystemTree) → IsSystemAt sources unit s → (path : List (List ℕ)) (i : InstanceTree) → IsAtPath sources s path i → Holder sources unit i
holder_of sources unit s is path end (in_application a i ca ci) =
    record { name = unit; below = on_itself; tree = system_configuration s; declared = is; among = contains_flat_map (λ (x : ApplicationTree). x.network.instances) s.applications a i ca ci }
holder_of sources unit s is path end (inside {path = before} {outer = outer} type i at role there ci) = grind (arith, type_below, subapplication_type, holder_of sources unit s is before outer at)

module _ (sources : Sources) (unit : List ℕ) (sound : IsSound sources unit) where
  -- a unit that it rests on has no faults
  pub no_report : (name : List ℕ) → PartRests sources unit name → HasNoReport sources name
  no_report name below = nothing_reported sources name (unit_faultless sources name (sound_below sound name below))

  -- the names of the instances of such a type
  pub type_apart : (name : List ℕ) (d : TypeTree) → PartRests sources unit name → tree_at sources name ≡ Some (subapplication_type d) → AreApart (map (λ (i : InstanceTree). i.name) d.network.instances)
  type_apart name d below there =
      let names = map (λ (i : InstanceTree). i.name) d.network.instances in
      apart sources name (subapplication_type d) names (no_report name below).declarations there
      (Contains-append_right (interface_spaces d.interface ++ chart_spaces d.chart) (network_spaces d.network) names (contains_here names _))

  -- an instance whose type is a subapplication is one
  fits : (i : InstanceTree) → Holder sources unit i → (type : DeclTree) → tree_at sources i.type_name.name ≡ Some type → suits i.role (unit_kind_of type) ≡ true
  fits i h type there =
      true_from_ne_false (suits i.role (unit_kind_of type)) (λ e.
      let fault : Fault = record { code = WrongKind; span = i.type_name.span } in
      let has = (wrong_kinds sources h.name i.type_name.span).1 (record { decl = h.tree; declared = h.declared; instance = i; among = h.among; type = type; known = there; unsuited = not_suited i.role (unit_kind_of type) e; place = refl }) in
      contains_nothing fault (subst (λ (l : List Fault). Contains l fault) (no_report h.name h.below).declarations has))

  pub is_subapplication : (i : InstanceTree) → Holder sources unit i → (d : TypeTree) → tree_at sources i.type_name.name ≡ Some (subapplication_type d) → i.role ≡ Subapplication
  is_subapplication i h d there = let suited = fits i h (subapplication_type d) there in grind arith

  module _ (s : SystemTree) (is : IsSystemAt sources unit s) where
    abbrev prefix : List (List NameUse)
    prefix = map (λ (x : ApplicationTree). x.name) s.applications ∷ flat_map (λ (x : ApplicationTree). network_spaces x.network) s.applications

    abbrev behind : List (List NameUse)
    behind = map (λ (d : DeviceTree). d.name) s.devices ∷ map resource_names s.devices

    space_apart : (names : List NameUse) → Contains prefix names → AreApart names
    space_apart names c = apart sources unit (system_configuration s) names (no_report unit on_itself).declarations is (Contains-append_left prefix behind names c)

    pub applications_apart : AreApart (map (λ (a : ApplicationTree). a.name) s.applications)
    applications_apart = grind (arith, space_apart, contains_here)

    pub instances_apart : (a : ApplicationTree) → Contains s.applications a → AreApart (map (λ (i : InstanceTree). i.name) a.network.instances)
    instances_apart a c = search (space_apart, contains_later, contains_flat_map, contains_here)
