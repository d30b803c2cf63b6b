-- None of what the unit rests on reaches itself, so that there is an order.
use Rattle.std.proofs.{Common.{ℕ, List, is_some, subst, sym}, lemmas.Result.{IfOk-weaker}}
use Rattle.std.specs.Prelude.{Contains}
use Rattle.fb_types.specs.{Holders.{holders_of, is_holder}, Library.Rests.{PartRests, on_itself, through_part}, Library.View.{Sources}, Order.{IsOrdered}}
use Rattle.fb_types.proofs.{UncachedLemmas.{get_holder}, Library.Locality.{parts_rest}, Text.Members.{contains_nothing}, Text.Tests.{by_bool}}
use Rattle.fb_flatten.proofs.{ComputedNets.{has_by_text}, CountLemmas.{holder_part}, KeptLemmas.{reaches_within, rests_within}, SoundLemmas.{sound_below}}
use Rattle.fb_flatten.proofs.counts.counts_below.Goals as goal

-- what rests on what among units with instances that count does so among all
within : (sources : Sources) {u v : List ℕ} → PartRests (holders_of sources) u v → PartRests sources u v
within sources r = rests_within sources (holders_of sources) (is_holder sources) (get_holder sources) r

pub unwrap-order-requires : goal.unwrap-order-requires
unwrap-order-requires g c =
    let sources = g.V.View.sources c.args.view.now in
    by_bool (is_some c.in_ok-inner_first.field-0) (λ t. t)
    (λ none.
    let r = c.in_ok-inner_first.ensures.recursive.0 none in
    let round = reaches_within sources (holders_of sources) (is_holder sources) (get_holder sources) r.1.1 in
    absurd (contains_nothing r.0 ((c.requires.sound.finite.members r.0).1 (parts_rest sources (within sources r.1.0), round))))

pub counts_in_order-requires : goal.counts_in_order-requires
counts_in_order-requires g c =
    let sources = g.V.View.sources c.args.view.now in
    let whole = rw c.unwrap-order.ensures at c.in_ok-inner_first.ensures.whole in
    record {
      order = subst (IsOrdered (holders_of sources)) (sym c.as_slice.ensures.value) (rw c.unwrap-order.ensures at c.in_ok-inner_first.ensures.ordered);
      sound = λ name h. sound_below c.requires.sound name (within sources ((whole name).0 (subst (λ (l : List (List ℕ)). Contains l name) c.as_slice.ensures.value h)));
    }

pub returns : goal.returns
returns g c =
    let sources = g.V.View.sources c.args.view.now in
    let unit = c.args.unit.now in
    let whole = rw c.unwrap-order.ensures at c.in_ok-inner_first.ensures.whole in
    let holds = (has_by_text sources unit).1 c.requires.net in
    record {
      own =
          IfOk-weaker c.counts_in_order.result _ _
          (λ counts all w m kind.
          all w
          (subst (λ (l : List (List ℕ)). Contains l w) (sym c.as_slice.ensures.value) ((whole w).1 (through_part (holder_part sources unit w holds m) on_itself))) kind)
          c.counts_in_order.ensures.all;
      right = c.counts_in_order.ensures.right;
    }
