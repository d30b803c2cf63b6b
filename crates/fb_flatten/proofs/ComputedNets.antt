-- What is computed is the net of the unit.
use Rattle.std.proofs.Common.{◌≡◌, ℕ, Bool, true, false, cond, if◌then◌else◌, List, [], ◌∷◌, length, ◌⊎◌, inl, inr, Option, Some, None, refl, sym, ap, subst, ◌∙◌, arith}
use Rattle.std.proofs.{lemmas.Bool.{false≢true}, lemmas.Bool.Decides.{nat_tests}, lemmas.List.Kept.{IsStrictlySortedBy-filter}}
use Rattle.std.specs.{Prelude.{Contains, ◌≢◌, nat_lt, map, filter, option_map}, List.{flat_map}, Option.{option_and_then}, FinMap.{get}}
use Rattle.fb_types.specs.{Text.Order.{name_cmp, in_order}, Tree.Tree.{DeclTree, subapplication_type, system_configuration}}
use Rattle.fb_types.specs.declared.systems.Application.{Application}
use Rattle.fb_types.specs.Units.{HasNet, has_net_tree, own_instances, AreFlatApplications, NoApplication, ThenApplication, Holds, IsUnitFlat, OfSubapplication, OfSystem}
use Rattle.fb_types.specs.{Library.Seen.{has_name}, Tree.Mentions.{unit_kind_of}, Library.View.{Sources, parts_at, tree_at, tree_of}}
use Rattle.fb_types.specs.{Library.Rests.{Rests, itself, PartRests, on_itself, through_part}, Library.Local.{AgreeFar}, Reaches.{IsRecursive}}
use Rattle.fb_types.specs.{Network.declared.flat.count.TheConstants.{INSTANCE_LIMIT}, Network.PlainFlat.{PlainFlat}, Network.LinkOrder.{link_cmp, link_cmp_total}}
use Rattle.fb_types.specs.{Network.Network.{View}, Network.FlatNet.{IsFlat}, Network.Instances.{Held}, Network.SystemFlat.{IsSystemFlat, application_links}}
use Rattle.fb_types.specs.{Network.declared.flat.application.FlatApplication.{FlatApplication}, Applications.{applications_of}, ByName.{applications_at, declared}}
use Rattle.fb_types.specs.Networks.{network_of}
use Rattle.fb_types.proofs.{Text.OrderLemmas.{in_order-sorted}, Library.Locality.{far_local, part_mention, parts_both, parts_rest, rests_more}}
use Rattle.fb_types.proofs.Text.Members.{contains_nothing, contains_filter, passes_in_filter, contains_here, contains_later}
use Rattle.fb_types.proofs.{Network.SystemLemmas.{system_links_are}, Library.WalkLemmas.{Contains-has, has-Contains}}
use Rattle.fb_types.specs.Tree.declared.kinds.UnitKind.TheVariants as kinds
use Rattle.fb_faults.specs.Faults.{faults_of}
use Rattle.fb_flatten.proofs.{CleanUnits.{applications_clean, networks_clean}, MentionLemmas.{applications_within, declared_within, own_within}}
use Rattle.fb_flatten.proofs.{NetLemmas.{blocking_those, recursive_those}, OrderLemmas.{present_of_tree}, NetLocality.{net_local}, OneNet.{one_net_only}}
use Rattle.fb_flatten.proofs.{FarNames.{far_is_all}, Depths.{far_deep, recursive_is, some_of, some_passes}}
use Rattle.fb_flatten.proofs.ComputedFlats.{AreFaultless, IsDone, all_done, flat_with, held_with, links_ordered}
use Rattle.fb_flatten.specs.{Blocking.{AreThose, IsBlocking, IsPartBelow, is_blocking, is_part_among}, Net.{PlainNet, too_large, flat_net, IsNet, IsSound}}
use Rattle.fb_flatten.specs.Far.{far_of}
use Rattle.fb_flatten.specs.Nets.{composed, flats_of, flat_application, joined, flat_of_tree, held_by, held_of, is_recursive, sized_net, finite_net, first_net, net_of_tree, net_in, net_at, HasNetByText, NetAtIsNet, NetAtIsLocal}

none_unless : {A : Type 0} (xs : List A) → ((xs ≡ [] → ⊥) → ⊥) → xs ≡ []
none_unless [] h = refl
none_unless (x ∷ xs) h = absurd (h (λ e. let no : ⊥ = cc in no))

module _ (sources : Sources) (unit : List ℕ) where
  names_sound : (v : List ℕ) → Contains (far_of sources unit) v → Rests sources unit v
  names_sound v c = ((far_is_all sources unit).1 v).0 c

  names_complete : (v : List ℕ) → Rests sources unit v → Contains (far_of sources unit) v
  names_complete v r = ((far_is_all sources unit).1 v).1 r

  -- whether a name is a part of what the unit rests on
  abbrev is_part : List ℕ → Bool
  is_part = is_part_among sources (far_of sources unit)

  part_below : (v : List ℕ) → is_part v ≡ true → IsPartBelow sources unit v
  part_below v told =
      let s = some_passes (λ holder. has_name (parts_at sources holder) v) (far_of sources unit) told in
      (s.0, names_sound s.0 (Contains-has s.0 (far_of sources unit) s.1), Contains-has v (parts_at sources s.0) s.2)

  below_part : (v : List ℕ) → IsPartBelow sources unit v → is_part v ≡ true
  below_part v below =
      some_of (λ holder. has_name (parts_at sources holder) v) (far_of sources unit) below.0
      (has-Contains below.0 (far_of sources unit) (names_complete below.0 below.1)) (has-Contains v (parts_at sources below.0) below.2)

  those_blocking : AreThose sources unit (IsBlocking sources unit) (filter (is_blocking sources (is_part_among sources (far_of sources unit))) (far_of sources unit))
  those_blocking =
      blocking_those (is_part_among sources (far_of sources unit)) (far_of sources unit) (filter (is_blocking sources (is_part_among sources (far_of sources unit))) (far_of sources unit)) (far_is_all sources unit).0 names_sound (λ v r b. names_complete v r)
      (λ v c absent told. part_below v told) (λ v c absent below. below_part v below) refl

  those_recursive : AreThose sources unit (IsRecursive sources) (filter (is_recursive sources) (far_of sources unit))
  those_recursive =
      recursive_those (far_of sources unit) (filter (is_recursive sources) (far_of sources unit)) names_sound names_complete
      (IsStrictlySortedBy-filter name_cmp (is_recursive sources) (far_of sources unit) (far_is_all sources unit).0)
      (λ v. (
        λ c. let p = passes_in_filter (is_recursive sources) (far_of sources unit) v c in (p.among, (recursive_is sources v).0 p.passes),
        λ r. contains_filter (is_recursive sources) (far_of sources unit) v r.0 ((recursive_is sources v).1 r.1),
      ))

  -- ---- a sound unit

  -- what it rests on has no faults
  no_faults : IsSound sources unit → (v : List ℕ) → Rests sources unit v → faults_of sources v ≡ []
  no_faults sound v r = none_unless (faults_of sources v) (λ n. contains_nothing v ((sound.whole.members v).1 (r, inl n)))

  pub unit_faultless : IsSound sources unit → faults_of sources unit ≡ []
  unit_faultless sound = no_faults sound unit itself

  -- and what it rests on by parts is present
  pub present_below : IsSound sources unit → {u v : List ℕ} → Rests sources unit u → get sources u ≢ None → PartRests sources u v → get sources v ≢ None
  present_below sound r here on_itself = here
  present_below sound {u} r here (through_part {w = w} m rest) =
      let next : Rests sources unit w = rests_more r (part_mention sources u w m) in
      present_below sound next (λ absent. contains_nothing w ((sound.whole.members w).1 (next, inr (absent, (u, r, m))))) rest

  faultless : IsSound sources unit → (u : List ℕ) → PartRests sources unit u → AreFaultless sources u
  faultless sound u r v s = (present_below sound itself sound.present (parts_both r s), no_faults sound v (parts_rest sources (parts_both r s)))

  finite : IsSound sources unit → (v : List ℕ) → Rests sources unit v → IsRecursive sources v → ⊥
  finite sound v r rec = contains_nothing v ((sound.finite.members v).1 (r, rec))

  pub done : IsSound sources unit → (v : List ℕ) → PartRests sources unit v → IsDone sources (length (far_of sources unit)) v
  done sound v r = all_done (far_deep sources unit (finite sound) v (parts_rest sources r)) (faultless sound v r)

  pub done_part : IsSound sources unit → (v : List ℕ) → Contains (parts_at sources unit) v → IsDone sources (length (far_of sources unit)) v
  done_part sound v m = done sound v (through_part m on_itself)

  -- ---- its flat network

  flat_applications : (view : View) (depth : ℕ) (list : List Application) → ((a : Application) → Contains list a → IsFlat view a.network (composed view (flats_of depth view) a.network)) → AreFlatApplications view list (map (flat_application view (flats_of depth view)) list)
  flat_applications view depth [] each = NoApplication
  flat_applications view depth (a ∷ list) each =
      ThenApplication a (flat_application view (flats_of depth view) a) (record { name = refl; net = each a (contains_here a list) })
      (flat_applications view depth list (λ b c. each b (contains_later a list b c)))

  joined_is : (flats : List FlatApplication) → IsSystemFlat flats (joined flats)
  joined_is flats =
      let made = flat_map application_links flats in
      let ordered = links_ordered made in
      record {
        blocks = refl;
        links = system_links_are flats made (in_order link_cmp made) refl ordered.kept ordered.added;
        links_sorted = in_order-sorted link_cmp link_cmp_total made;
        borders = refl;
      }

  unit_flat : (tree : DeclTree) → tree_at sources unit ≡ Some tree → has_net_tree tree ≡ true → IsSound sources unit → IsUnitFlat sources unit (flat_of_tree (declared sources) (flats_of (length (far_of sources unit)) (declared sources)) tree)
  unit_flat (subapplication_type d) present has sound =
      let network = network_of (subapplication_type d) in
      let is : declared sources unit ≡ Some network = ap (option_map network_of) present in
      OfSubapplication network (ap (option_map unit_kind_of) present) is
      (flat_with sources (length (far_of sources unit)) network (networks_clean sources unit network is (unit_faultless sound)).clean
      (λ i h. done_part sound i.type_name ((declared_within sources unit network is).types i h)))
  unit_flat (system_configuration s) present has sound =
      let view = declared sources in
      let depth = length (far_of sources unit) in
      let list = applications_of (system_configuration s) in
      let is : applications_at sources unit ≡ Some list = ap (option_map applications_of) present in
      let clean = applications_clean sources unit list is (unit_faultless sound) in
      OfSystem list (map (flat_application view (flats_of depth view)) list) (ap (option_map unit_kind_of) present) is
      (flat_applications view depth list
      (λ a c. flat_with sources depth a.network (clean.sound a c).clean (λ i h. done_part sound i.type_name ((applications_within sources unit list is a c).types i h))))
      (joined_is (map (flat_application view (flats_of depth view)) list))
  unit_flat other present has sound = absurd (false≢true has)

  -- ---- its net

  unit_held : (tree : DeclTree) → tree_at sources unit ≡ Some tree → IsSound sources unit → Holds sources unit (held_by (held_of (length (far_of sources unit)) (declared sources)) (own_instances tree))
  unit_held tree present sound = record {
    tree = tree;
    present = present;
    instances = held_with sources (length (far_of sources unit)) (own_instances tree) (λ i c. done_part sound i.type_name (own_within sources unit tree present i c));
  }

  sized_is : (held : List Held) (flat : PlainFlat) → IsSound sources unit → Holds sources unit held → IsUnitFlat sources unit flat → IsNet sources unit (sized_net held flat)
  sized_is held flat sound holds is = by (nat_lt INSTANCE_LIMIT (length held)) refl
    where
      by : (b : Bool) → nat_lt INSTANCE_LIMIT (length held) ≡ b → IsNet sources unit (cond b too_large (flat_net flat))
      by true e = (sound, record { held = held; holds = holds; more = grind (arith, nat_tests) })
      by false e = (sound, record { held = held; holds = holds; within = grind (arith, nat_tests) }, is)

  finite_is : (tree : DeclTree) → tree_at sources unit ≡ Some tree → has_net_tree tree ≡ true → IsSound sources unit → IsNet sources unit (finite_net (length (far_of sources unit)) sources tree)
  finite_is tree present has sound = sized_is _ _ sound (unit_held tree present sound) (unit_flat tree present has sound)

  first_is : (xs ys : List (List ℕ)) (net : PlainNet) → get sources unit ≢ None → AreThose sources unit (IsBlocking sources unit) xs → AreThose sources unit (IsRecursive sources) ys → (IsSound sources unit → IsNet sources unit net) → IsNet sources unit (first_net xs ys net)
  first_is [] [] net present b r last = last (record { present = present; whole = b; finite = r })
  first_is [] (y ∷ ys) net present b r last = (b, r, λ e. let no : ⊥ = cc in no)
  first_is (x ∷ xs) ys net present b r last = (b, λ e. let no : ⊥ = cc in no)

  net_of_tree_is : (tree : DeclTree) → tree_at sources unit ≡ Some tree → has_net_tree tree ≡ true → IsNet sources unit (net_of_tree sources unit tree)
  net_of_tree_is tree present has = first_is _ _ _ (present_of_tree sources unit tree present) those_blocking those_recursive (finite_is tree present has)

  -- the tree of a unit that has a net
  net_tree : HasNet sources unit → (tree : DeclTree) × (tree_at sources unit ≡ Some tree) × (has_net_tree tree ≡ true)
  net_tree has = grind arith

  -- the computed net of a unit that has one
  computed : HasNet sources unit → (net : PlainNet) × (net_at sources unit ≡ Some net) × IsNet sources unit net
  unfolding net_at
  computed has =
      let t = net_tree has in
      let net = net_of_tree sources unit t.0 in
      (net, ap (net_in sources unit) t.1 ∙ ap (λ c. if c then Some net else None) t.2, net_of_tree_is t.0 t.1 t.2)

  has_computed : (net : PlainNet) → net_at sources unit ≡ Some net → HasNet sources unit
  unfolding net_at
  has_computed net at = grind arith

  computed_is : (net : PlainNet) → net_at sources unit ≡ Some net → HasNet sources unit × IsNet sources unit net
  computed_is net at =
      let has = has_computed net at in
      let c = computed has in
      let there = c.1 in
      let same : c.0 ≡ net = cc in
      (has, subst (IsNet sources unit) same c.2)

  is_computed : (net : PlainNet) → HasNet sources unit → IsNet sources unit net → net_at sources unit ≡ Some net
  is_computed net has is = let c = computed has in c.1 ∙ ap (λ n. Some n) (one_net_only sources unit c.0 net c.2 is)

-- whether there is a net is told by the tree
pub has_by_text : HasNetByText
has_by_text sources unit = grind arith

pub net_at_is : NetAtIsNet
net_at_is sources unit net = (computed_is sources unit net, λ h. is_computed sources unit net h.0 h.1)

pub same_kind : (a b : Sources) (unit : List ℕ) → get a unit ≡ get b unit → HasNet a unit → HasNet b unit
same_kind a b unit e has = subst (λ o. (option_map unit_kind_of (option_and_then tree_of o) ≡ Some kinds.Subapplication) ⊎ (option_map unit_kind_of (option_and_then tree_of o) ≡ Some kinds.System)) e has

there : (a b : Sources) (unit : List ℕ) → AgreeFar unit a b → (net : PlainNet) → net_at a unit ≡ Some net → net_at b unit ≡ Some net
there a b unit agree net at =
    let p = (net_at_is a unit net).0 at in
    (net_at_is b unit net).1 (same_kind a b unit (agree unit itself) p.0, net_local a b unit agree net p.1)

same_options : {X : Type 0} (o p : Option X) → ((x : X) → o ≡ Some x → p ≡ Some x) → ((x : X) → p ≡ Some x → o ≡ Some x) → o ≡ p
same_options (Some x) p first second = sym (first x refl)
same_options None None first second = refl
same_options None (Some x) first second = second x refl

pub net_at_local : NetAtIsLocal
net_at_local a b unit agree = same_options (net_at a unit) (net_at b unit) (there a b unit agree) (there b a unit (λ name r. sym (agree name ((far_local a b unit agree name).1 r))))
