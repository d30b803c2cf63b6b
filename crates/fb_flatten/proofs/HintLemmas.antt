-- What kept nets tell of their units.
use Rattle.std.proofs.{Common.{ℕ, ◌≡◌, Bool, true, false, arith, length, List, Option, Some, None, ap, subst}, lemmas.Bool.{false≢true}}
use Rattle.std.specs.{Prelude.{is_none, option_map}, FinMap.{get}, Option.{option_or}}
use Rattle.fb_types.specs.{Tree.Mentions.{unit_kind_of}, Tree.Tree.{DeclTree, subapplication_type}}
use Rattle.fb_types.specs.{Units.{IsTooLarge, IsUnitFlat, OfSubapplication, OfSystem, own_instances}, Library.View.{Sources, tree_at}}
use Rattle.fb_types.specs.{Network.Plain.{PlainNetwork}, Network.PlainFlat.{PlainFlat}, Network.Instances.{Held, AreInstances}, ByName.{declared, kind_at}}
use Rattle.fb_types.specs.{Networks.{network_of}, Network.Ready.{Nets, IsFinished}}
use Rattle.fb_types.specs.Tree.declared.kinds.UnitKind.TheVariants as kinds
use Rattle.fb_types.proofs.Network.BlockLemmas.{same_instances}
use Rattle.fb_flatten.specs.{Blocking.{is_absent_or_faulty, is_blocking}, Hints.{AreRightHints, flat_of_hint, is_whole_hint, is_whole_net}}
use Rattle.fb_flatten.specs.{Net.{PlainNet, too_large, flat_net, IsNet, IsSound}, Tables.{IsSmallType, known_flats}}
use Rattle.fb_flatten.proofs.ComputedNets.{net_at_is, unit_faultless}

-- ---- faults

sound_net : (sources : Sources) (name : List ℕ) (net : PlainNet) → IsNet sources name net → is_whole_net net ≡ true → IsSound sources name
sound_net sources name net is e = grind arith

whole_hint : (o : Option PlainNet) → is_whole_hint o ≡ true → (net : PlainNet) × (o ≡ Some net) × (is_whole_net net ≡ true)
whole_hint o e = grind arith

-- a unit of which the kept net tells that it is whole
pub known_sound : (sources : Sources) (hints : List ℕ → Option PlainNet) (name : List ℕ) → AreRightHints sources hints → is_whole_hint (hints name) ≡ true → IsSound sources name
known_sound sources hints name right known =
    let w = whole_hint (hints name) known in
    sound_net sources name w.0 ((net_at_is sources name w.0).0 (right name w.0 w.1)).1 w.2

-- it is present and has no faults
pub known_whole : (sources : Sources) (hints : List ℕ → Option PlainNet) (name : List ℕ) → AreRightHints sources hints → is_whole_hint (hints name) ≡ true → is_absent_or_faulty sources name ≡ false
known_whole sources hints name right known =
    let sound = known_sound sources hints name right known in
    grind (arith, sound.present, unit_faultless sources name sound)

-- what is present and has no faults does not block
pub not_blocking : (sources : Sources) (name : List ℕ) (is_part : List ℕ → Bool) → is_absent_or_faulty sources name ≡ false → is_blocking sources is_part name ≡ false
not_blocking sources name is_part neither = grind arith

-- what is absent is a name of no unit
pub not_absent : (sources : Sources) (name : List ℕ) → is_absent_or_faulty sources name ≡ false → is_none (get sources name) ≡ false
not_absent sources name neither = grind arith

-- ---- instances and flat networks

-- a net that does not tell that its unit is whole is not flat
pub no_flat : (o : Option PlainNet) → is_whole_hint o ≡ false → flat_of_hint o ≡ None
no_flat o e = grind arith

module _ (sources : Sources) (name : List ℕ) (kind : kind_at sources name ≡ Some kinds.Subapplication) (network : PlainNetwork) (there : declared sources name ≡ Some network) where
  -- the instances of a subapplication are those of its network
  of_type : (held : List Held) (tree : DeclTree) → tree_at sources name ≡ Some tree → AreInstances (declared sources) (own_instances tree) held → AreInstances (declared sources) network.instances held
  of_type held (subapplication_type d) present is =
      let found : declared sources name ≡ Some (network_of (subapplication_type d)) = ap (option_map network_of) present in
      let same : network_of (subapplication_type d) ≡ network = cc in
      subst (λ (n : PlainNetwork). AreInstances (declared sources) n.instances held) same is
  of_type held other present is = let same : kind_at sources name ≡ Some (unit_kind_of other) = ap (option_map unit_kind_of) present in absurd (let no : ⊥ = cc in no)

  not_large : IsTooLarge sources name → IsSmallType (declared sources) name → ⊥
  not_large large small =
      let own = small.declared in
      let one : small.network ≡ network = cc in
      let is = of_type large.held large.holds.tree large.holds.present large.holds.instances in
      let held = same_instances is (subst (λ (n : PlainNetwork). AreInstances (declared sources) n.instances small.held) one small.instances) in
      let same = ap (λ (l : List Held). length l) held in
      let more = large.more in
      let within = small.within in
      omega (arith, same, more, within)

  finished_unit : (nets : Nets) (flat : PlainFlat) → nets name ≡ Some flat → IsUnitFlat sources name flat → IsFinished (declared sources) nets name
  finished_unit nets flat found (OfSubapplication it k d is) = record { inner = it; declared = d; net = flat; found = found; flat = is }
  finished_unit nets flat found (OfSystem applications flats k at each joined) = let two = kind in absurd (let no : ⊥ = cc in no)

  module _ (hints : List ℕ → Option PlainNet) (right : AreRightHints sources hints) where
    -- a kept net that tells that its unit is whole is flat where that is not too large
    pub kept_finished : (composed : Nets) → is_whole_hint (hints name) ≡ true → IsSmallType (declared sources) name → IsFinished (declared sources) (known_flats hints composed) name
    kept_finished composed known small =
        let w = whole_hint (hints name) known in
        by_net w.0 w.1 ((net_at_is sources name w.0).0 (right name w.0 w.1)).1 w.2
      where
        by_net : (net : PlainNet) → hints name ≡ Some net → IsNet sources name net → is_whole_net net ≡ true → IsFinished (declared sources) (known_flats hints composed) name
        by_net (flat_net flat) e is k = finished_unit (known_flats hints composed) flat (ap (λ (o : Option PlainNet). option_or (flat_of_hint o) (composed name)) e) is.2
        by_net too_large e is k = absurd (not_large is.1 small)
        by_net other e is k = absurd (false≢true k)
