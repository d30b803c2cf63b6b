-- What is composed for a unit is the net of its type, where that is counted within the limit.
use Rattle.std.proofs.{Common.{ℕ, ◌≡◌, ◌≤◌, arith, true, not, List, Option, Some, inl, sym, ◌∙◌, ap, subst}, lemmas.Bool.{and_parts, false≢true}}
use Rattle.std.specs.{Prelude.{Contains, ◌≢◌, option_map}, Option.{option_or}, BTreeMap.{is_at}}
use Rattle.fb_types.specs.{Text.Order.{name_cmp}, Tree.Tree.{TypeTree, subapplication_type}, Library.View.{Sources, tree_at}}
use Rattle.fb_types.specs.{Network.declared.flat.count.TheConstants.{INSTANCE_LIMIT}, Network.Plain.{PlainNetwork}, Network.PlainFlat.{PlainFlat}}
use Rattle.fb_types.specs.{Network.Instances.{Held, AreInstances}, Network.FlatNet.{IsFlat}, Counts.{IsCounted}, Network.Ready.{Nets}}
use Rattle.fb_types.specs.{ByName.{declared, kind_at}, Networks.{network_of}, Units.{Holds, IsUnitFlat, IsWithinLimit, OfSubapplication}}
use Rattle.fb_types.specs.Tree.declared.kinds.UnitKind.TheVariants as kinds
use Rattle.fb_types.proofs.{Text.Tests.{not_true}, KindLemmas.{subapplication_by_tree}, Network.Equals.{bytes_same}, Library.Locality.{parts_rest}}
use Rattle.fb_flatten.specs.{Hints.{is_whole_hint}, Inner.{IsCountedFlat, IsCountedWithin, IsInnerNet}, Net.{PlainNet, flat_net}, Nets.{net_at}}
use Rattle.fb_flatten.specs.{Tables.{AllFinished, AreRightCounts, AreMissing, IsSmallType, IsUnitOrder, is_missing, known_flats}, declared.inner.Inner.{Inner}}
use Rattle.fb_flatten.proofs.{ComputedNets.{net_at_is}, HintLemmas.{no_flat}}

type_of_kind : (sources : Sources) (name : List ℕ) → kind_at sources name ≡ Some kinds.Subapplication → (d : TypeTree) × (tree_at sources name ≡ Some (subapplication_type d))
type_of_kind sources name kind = grind arith

module _ (sources : Sources) (name : List ℕ) (kind : kind_at sources name ≡ Some kinds.Subapplication) where
  -- the instances of the network of a subapplication are its own
  type_holds : (network : PlainNetwork) (held : List Held) → declared sources name ≡ Some network → AreInstances (declared sources) network.instances held → Holds sources name held
  type_holds network held d is =
      let t = type_of_kind sources name kind in
      let there : declared sources name ≡ Some (network_of (subapplication_type t.0)) = ap (option_map network_of) t.1 in
      let same : network ≡ network_of (subapplication_type t.0) = cc in
      record { tree = subapplication_type t.0; present = t.1; instances = subst (λ (n : PlainNetwork). AreInstances (declared sources) n.instances held) same is }

  -- a type that is counted within the limit
  small_type : {counts : List ℕ → Option ℕ} (count : ℕ) → IsCounted (declared sources) counts name → counts name ≡ Some count → count ≤ INSTANCE_LIMIT → IsSmallType (declared sources) name
  small_type count c e le =
      let found = c.found in
      let same : c.count ≡ count = cc in
      let is = c.counted.count_is in
      record { network = c.inner; declared = c.declared; held = c.counted.held; instances = c.counted.instances; within = omega (arith, same, is, le) }

  within_limit : IsSmallType (declared sources) name → IsWithinLimit sources name
  within_limit small = record { held = small.held; holds = type_holds small.network small.held small.declared small.instances; within = small.within }

module _ {sources : Sources} {hints : List ℕ → Option PlainNet} {unit : List ℕ} {order : List (List ℕ)} (o : IsUnitOrder sources hints unit order) where
  apart : (name : List ℕ) → is_missing sources hints unit name ≡ true → name ≢ unit
  apart name missing e =
      false≢true
      (ap not (sym (bytes_same unit)) ∙ ap (λ (n : List ℕ). not (is_at (name_cmp unit) n)) (sym e) ∙ (and_parts (not (is_at (name_cmp unit) name)) _ missing).0)

  -- the flat network of a name that is counted within the limit is the name's net
  counted_net : (flats : Nets) (counts : List ℕ → Option ℕ) (name : List ℕ) (flat : PlainFlat) → AreRightCounts sources counts → AllFinished sources (known_flats hints flats) unit order → Contains order name → is_missing sources hints unit name ≡ true → flats name ≡ Some flat → IsCountedWithin counts name → net_at sources name ≡ Some (flat_net flat)
  counted_net flats counts name flat right finished c missing found small =
      let rest = (and_parts (not (is_at (name_cmp unit) name)) _ missing).1 in
      let unknown = not_true (is_whole_hint (hints name)) (and_parts (not (is_whole_hint (hints name))) _ rest).0 in
      let kind = subapplication_by_tree sources name (and_parts (not (is_whole_hint (hints name))) _ rest).1 in
      let known = right name small.count small.counted in
      let fits = small_type sources name kind small.count known small.counted small.within in
      let f = finished name c (apart name missing) kind fits in
      let composed : flats name ≡ Some f.net = sym (ap (λ (p : Option PlainFlat). option_or p (flats name)) (no_flat (hints name) unknown)) ∙ f.found in
      let same : f.net ≡ flat = cc in
      let is : IsUnitFlat sources name flat = OfSubapplication f.inner kind f.declared (subst (λ (p : PlainFlat). IsFlat (declared sources) f.inner p) same f.flat) in
      (net_at_is sources name (flat_net flat)).1 (inl kind, (o.names.sound name c, within_limit sources name kind fits, is))

  pub inner_net : (flats : Nets) (counts : List ℕ → Option ℕ) → AreRightCounts sources counts → AllFinished sources (known_flats hints flats) unit order → AreMissing sources hints unit order flats → (it : Inner) → IsCountedFlat flats counts it → IsInnerNet sources unit it
  inner_net flats counts right finished missing it is =
      let m = missing it.unit is.flat is.found in
      record {
        below = parts_rest sources (o.below it.unit m.0);
        net_is = counted_net flats counts it.unit is.flat right finished m.0 m.1 is.found is.small ∙ ap (λ (n : PlainNet). Some n) (sym is.net_is);
      }
