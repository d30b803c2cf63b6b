-- One more name of an order is counted.
use Rattle.std.proofs.Common.{ℕ, ◌≡◌, ◌<◌, ◌≤◌, true, false, arith, length, is_some, ◌+◌, List, [], ◌∷◌, ◌++◌, Option, Some, inl, inr, sym, ◌∙◌, ap, subst, take, get_or, length-append}
use Rattle.std.proofs.{lemmas.List.{get_or_default, length-map}, lemmas.List.Elements.{Contains-push_cases}}
use Rattle.std.specs.{Prelude.{Contains, map, option_map}, BTreeMap.{is_at}}
use Rattle.fb_types.specs.{Text.Order.{name_cmp}, Tree.Tree.{DeclTree, subapplication_type, system_configuration}}
use Rattle.fb_types.specs.{Tree.Mentions.{unit_kind_of}, Library.View.{Sources, parts_at, tree_at}, Network.declared.flat.count.TheConstants.{INSTANCE_LIMIT}}
use Rattle.fb_types.specs.{Network.declared.network.InstanceKind.TheVariants.{Subapplication}, Network.declared.network.Instance.{Instance}}
use Rattle.fb_types.specs.{Network.Plain.{PlainNetwork}, Network.Network.{View}}
use Rattle.fb_types.specs.{Network.Instances.{Held, held_within, AreInstances, NoInstance, ThenBlock, ThenSubapplication}, ByName.{declared, kind_at}}
use Rattle.fb_types.specs.{Networks.{network_of}, Applications.{applications_of}, declared.systems.Application.{Application}}
use Rattle.fb_types.specs.{Counts.{IsCounted, AreCounted, CountsAll, HasCount}, Order.{IsOrdered}, Holders.{holders_of, is_holder}}
use Rattle.fb_types.specs.Units.{has_net_in, own_instances}
use Rattle.fb_types.specs.Tree.declared.kinds.UnitKind.TheVariants as kinds
use Rattle.fb_flatten.specs.{Clean.{wanted_kind}, Net.{PlainNet, IsSound}}
use Rattle.fb_flatten.specs.Tables.{AllCounted, AreRightCounts, IsSmallType, IsSoundOrder, IsTable, IsUnitCount, SameOthers, is_subapplication_in, is_subapplication_tree}
use Rattle.fb_types.proofs.{Text.Tests.{by_bool}, Text.Members.{contains_cases, contains_nothing, origin_in_flat_map}, Network.Equals.{same_bytes, at_not}}
use Rattle.fb_types.proofs.{UncachedLemmas.{get_holder}, KindLemmas.{subapplication_by_tree, subapplication_told}}
use Rattle.fb_flatten.proofs.{CleanUnits.{applications_clean, networks_clean}, KeptLemmas.{part_kept}, ComputedNets.{has_by_text, unit_faultless}}
use Rattle.fb_flatten.proofs.{MentionLemmas.{own_within}, SoundLemmas.{sound_network, sound_tree}}

-- ---- kinds

-- a type in an order has the kind that an instance wants of it
pub inner_kind : (sources : Sources) (name : List ℕ) (network : PlainNetwork) → IsSound sources name → declared sources name ≡ Some network → (i : Instance) → Contains network.instances i → i.kind ≡ Subapplication → kind_at sources i.type_name ≡ Some kinds.Subapplication
inner_kind sources name network sound d i c k = (networks_clean sources name network d (unit_faultless sources name sound)).kinds i c ∙ ap (λ kind. Some (wanted_kind kind)) k

own_wanted : (sources : Sources) (unit : List ℕ) (tree : DeclTree) → IsSound sources unit → tree_at sources unit ≡ Some tree → (i : Instance) → Contains (own_instances tree) i → kind_at sources i.type_name ≡ Some (wanted_kind i.kind)
own_wanted sources unit (subapplication_type d) sound present i c =
    (networks_clean sources unit (network_of (subapplication_type d)) (ap (option_map network_of) present) (unit_faultless sources unit sound)).kinds i c
own_wanted sources unit (system_configuration s) sound present i c =
    let list = applications_of (system_configuration s) in
    let o = origin_in_flat_map (λ (a : Application). a.network.instances) list i c in
    ((applications_clean sources unit list (ap (option_map applications_of) present) (unit_faultless sources unit sound)).sound o.origin o.among).kinds i o.has
own_wanted sources unit other sound present i c = absurd (contains_nothing i c)

-- the same of an instance of the unit itself
pub own_kind : (sources : Sources) (unit : List ℕ) (tree : DeclTree) → IsSound sources unit → tree_at sources unit ≡ Some tree → (i : Instance) → Contains (own_instances tree) i → i.kind ≡ Subapplication → kind_at sources i.type_name ≡ Some kinds.Subapplication
own_kind sources unit tree sound present i c k = own_wanted sources unit tree sound present i c ∙ ap (λ kind. Some (wanted_kind kind)) k

-- ---- counts

-- the subapplications among these names are counted, and each count is right
pub record AreSoFar (sources : Sources) (names : List (List ℕ)) (counts : List ℕ → Option ℕ) : Type 0 where
  pub all : AllCounted sources counts names
  pub right : AreRightCounts sources counts

counted_still : {view : View} {old new : List ℕ → Option ℕ} (name : List ℕ) → new name ≡ old name → IsCounted view old name → IsCounted view new name
counted_still name e f = record { inner = f.inner; declared = f.declared; count = f.count; found = e ∙ f.found; counted = f.counted }

-- a further name that is counted
pub counted_more : (sources : Sources) (old new : List ℕ → Option ℕ) (names : List (List ℕ)) (name : List ℕ) → AllCounted sources old names → SameOthers old new name → (kind_at sources name ≡ Some kinds.Subapplication → IsCounted (declared sources) new name) → AllCounted sources new (names ++ name ∷ [])
counted_more sources old new names name all others one q c k =
    let here : name ≡ q → IsCounted (declared sources) new q = λ same. subst (λ (n : List ℕ). IsCounted (declared sources) new n) same (one (ap (kind_at sources) same ∙ k)) in
    elim (Contains-push_cases names name q c) [
      | inr s ↦ here s
      | inl d ↦ by_bool (is_at (name_cmp name) q) (λ e. here (same_bytes name q e)) (λ e. counted_still q (others q (at_not name q e)) (all q d k))
    ]

-- the table has each name of the order
pub in_table : {sources : Sources} {hints : List ℕ → Option PlainNet} {table : View} {order : List (List ℕ)} (names : IsSoundOrder sources hints order) (t : IsTable sources table order) (name : List ℕ) → Contains order name → is_some (table name) ≡ true
in_table names t name c = let it = sound_network (names.sound name c) in ap is_some ((t.types name c).network it.network it.is_declared)

-- the types of the instances of a sound unit are counted where the names that it mentions are
own_counted : {sources : Sources} {counts : List ℕ → Option ℕ} (unit : List ℕ) (tree : DeclTree) → IsSound sources unit → tree_at sources unit ≡ Some tree → ((w : List ℕ) → Contains (parts_at sources unit) w → kind_at sources w ≡ Some kinds.Subapplication → IsCounted (declared sources) counts w) → AreCounted (declared sources) (own_instances tree) counts
own_counted {sources = sources} unit tree sound present mentioned i c k = mentioned i.type_name (own_within sources unit tree present i c) (own_kind sources unit tree sound present i c k)

type_counted : (sources : Sources) {old new : List ℕ → Option ℕ} (name : List ℕ) (tree : DeclTree) → kind_at sources name ≡ Some kinds.Subapplication → tree_at sources name ≡ Some tree → AreCounted (declared sources) (own_instances tree) old → HasCount old new tree name → IsCounted (declared sources) new name
type_counted sources name (subapplication_type d) kind present all has =
    record { inner = network_of (subapplication_type d); declared = ap (option_map network_of) present; count = has.count; found = has.found; counted = has.counted (declared sources) all }
type_counted sources name other kind present all has = let two : kind_at sources name ≡ Some (unit_kind_of other) = ap (option_map unit_kind_of) present in absurd (let no : ⊥ = cc in no)

-- a unit with instances that count has all its parts among such units
pub holder_part : (sources : Sources) (name w : List ℕ) → has_net_in (tree_at sources name) ≡ true → Contains (parts_at sources name) w → Contains (parts_at (holders_of sources) name) w
holder_part sources name w = part_kept sources (holders_of sources) (is_holder sources) (get_holder sources) name w

-- the next name of an order is counted by the counts of those before it
pub next_counted : {sources : Sources} {order : List (List ℕ)} {old new : List ℕ → Option ℕ} (i : ℕ) (name : List ℕ) → IsOrdered (holders_of sources) order → IsSound sources name → i < length order → name ≡ get_or order i name → AllCounted sources old (take i order) → ((tree : DeclTree) → tree_at sources name ≡ Some tree → is_subapplication_tree tree ≡ true → HasCount old new tree name) → kind_at sources name ≡ Some kinds.Subapplication → IsCounted (declared sources) new name
next_counted {sources = sources} {order = order} i name ordered sound lt e all has kind =
    let t = sound_tree sound in
    let place : name ≡ get_or order i [] = e ∙ get_or_default order i name [] lt in
    let holds = (has_by_text sources name).1 (inl kind) in
    type_counted sources name t.tree kind t.present
    (own_counted name t.tree sound t.present
    (λ w m. all w (ordered.inner_first i lt w (subst (λ (n : List ℕ). Contains (parts_at (holders_of sources) n) w) place (holder_part sources name w holds m)))))
    (has t.tree t.present (sym (ap is_subapplication_in t.present) ∙ subapplication_told sources name kind))

-- counts stay right with a further one
pub right_more : (sources : Sources) (old new : List ℕ → Option ℕ) (name : List ℕ) → AreRightCounts sources old → SameOthers old new name → (is_subapplication_in (tree_at sources name) ≡ false → new name ≡ old name) → (kind_at sources name ≡ Some kinds.Subapplication → IsCounted (declared sources) new name) → AreRightCounts sources new
right_more sources old new name right others kept one q count found = by_bool (is_at (name_cmp name) q)
    (λ t.
    let same = same_bytes name q t in
    let here = ap new same ∙ found in
    subst (λ (n : List ℕ). IsCounted (declared sources) new n) same
    (by_bool (is_subapplication_in (tree_at sources name))
    (λ s. one (subapplication_by_tree sources name s))
    (λ f. counted_still name (kept f) (right name count (sym (kept f) ∙ here)))))
    (λ f. let e = others q (at_not name q f) in counted_still q e (right q count (sym e ∙ found)))

-- the unit is counted by the counts of what it mentions
pub unit_counted : {sources : Sources} {unit : List ℕ} {counts : List ℕ → Option ℕ} (tree : DeclTree) (count : ℕ) → IsSound sources unit → tree_at sources unit ≡ Some tree → AllCounted sources counts (parts_at sources unit) → CountsAll counts (own_instances tree) count → IsUnitCount sources unit count
unit_counted {sources = sources} {unit = unit} tree count sound present all counted =
    let c = counted (declared sources) (own_counted unit tree sound present all) in
    record { held = c.held; holds = record { tree = tree; present = present; instances = c.instances }; count_is = c.count_is }

-- ---- sizes

-- what is no larger than the limit holds no larger types
pub inner_small : {view : View} {list : List Instance} {held : List Held} (i : Instance) → AreInstances view list held → length held ≤ INSTANCE_LIMIT → Contains list i → i.kind ≡ Subapplication → IsSmallType view i.type_name
inner_small i NoInstance le c k = absurd (contains_nothing i c)
inner_small i (ThenBlock j rest others block more) le c k =
    elim (contains_cases j rest i c) [
      | inl e ↦ let kinds = sym block ∙ ap (λ (x : Instance). x.kind) e ∙ k in absurd (let no : ⊥ = cc in no)
      | inr h ↦ inner_small i more (omega (arith, le)) h k
    ]
inner_small {view = view} i (ThenSubapplication j rest inner own others kind d inside more) le c k =
    let both : length (map (held_within j.name) own ++ others) ≡ length own + length others = simp (length-append, length-map) in
    elim (contains_cases j rest i c) [
      | inl e ↦ record { network = inner; declared = rw e at d; held = own; instances = inside; within = omega (arith, le, both) }
      | inr h ↦ inner_small i more (omega (arith, le, both)) h k
    ]
