-- What is known of a unit that nothing blocks, and of which none of what it rests on reaches itself.
use Rattle.std.proofs.Common.{ℕ, ◌≡◌, List, [], Some, None, inl, inr, subst, length}
use Rattle.std.specs.{Prelude.{Contains, ◌≢◌}, FinMap.{get}, List.Sorted.{IsStrictlySortedBy}}
use Rattle.fb_types.specs.{Text.Order.{name_cmp}, Library.View.{Sources, parts_at}, Library.Rests.{Rests, itself, PartRests, on_itself, through_part}}
use Rattle.fb_types.specs.{Reaches.{IsRecursive}, Network.Plain.{PlainNetwork}, Network.Clean.{IsCleanThroughout}, ByName.{declared}}
use Rattle.fb_types.proofs.{Library.Locality.{parts_rest, rests_both}, Text.Members.{contains_nothing}}
use Rattle.fb_flatten.specs.{Far.{far_of}, Blocking.{AreThose, IsBlocking}, Net.{IsSound, IsWhole}}
use Rattle.fb_flatten.proofs.{ComputedFlats.{IsDone}, ComputedNets.{done, present_below, unit_faultless}, OrderLemmas.{HasTree, reaches_part, tree_of_faultless}}

pub no_names_sorted : IsStrictlySortedBy name_cmp []
unfolding IsStrictlySortedBy
no_names_sorted = tt

none_those : {sources : Sources} {unit : List ℕ} {property : List ℕ → Type 0} → ((v : List ℕ) → Rests sources unit v → property v → ⊥) → AreThose sources unit property []
none_those none = record { sorted = no_names_sorted; members = λ v. (λ c. absurd (contains_nothing v c), λ r. absurd (none v r.0 r.1)) }

-- what blocks something that the unit rests on blocks the unit
pub blocks_above : {sources : Sources} {unit name v : List ℕ} → Rests sources unit name → IsBlocking sources name v → IsBlocking sources unit v
blocks_above r (inl faulty) = inl faulty
blocks_above r (inr (absent, (holder, below, part))) = inr (absent, (holder, rests_both r below, part))

-- where nothing blocks and none reaches itself
pub sound_where : {sources : Sources} {unit : List ℕ} → get sources unit ≢ None → IsWhole sources unit → ((v : List ℕ) → Rests sources unit v → IsRecursive sources v → ⊥) → IsSound sources unit
sound_where present whole finite = record { present = present; whole = whole; finite = none_those finite }

module _ {sources : Sources} {unit : List ℕ} (sound : IsSound sources unit) where
  -- what it rests on by parts is as sound
  pub sound_below : (name : List ℕ) → PartRests sources unit name → IsSound sources name
  sound_below name r =
      let rests = parts_rest sources r in
      record {
        present = present_below sources unit sound itself sound.present r;
        whole = none_those (λ v s blocks. contains_nothing v ((sound.whole.members v).1 (rests_both rests s, blocks_above rests blocks)));
        finite = none_those (λ v s rec. contains_nothing v ((sound.finite.members v).1 (rests_both rests s, rec)));
      }

  pub sound_part : (name : List ℕ) → Contains (parts_at sources unit) name → IsSound sources name
  sound_part name m = sound_below name (through_part m on_itself)

  -- nothing below it has it as a part
  pub not_mentioned : (name : List ℕ) → PartRests sources unit name → Contains (parts_at sources name) unit → ⊥
  not_mentioned name r m = contains_nothing unit ((sound.finite.members unit).1 (itself, reaches_part r m))

  pub sound_tree : HasTree sources unit
  sound_tree = tree_of_faultless sources unit sound.present (unit_faultless sources unit sound)

  -- its network
  pub sound_network : IsDone sources (length (far_of sources unit)) unit
  sound_network = done sources unit sound unit on_itself

  pub clean_network : (network : PlainNetwork) → declared sources unit ≡ Some network → IsCleanThroughout (declared sources) network
  clean_network network is =
      let it = sound_network in
      let other = it.is_declared in
      let same : it.network ≡ network = cc in
      subst (λ (n : PlainNetwork). IsCleanThroughout (declared sources) n) same it.clean
