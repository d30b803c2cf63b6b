-- The names that block, then those that reach themselves, then an order of all.
use Rattle.std.proofs.{Common.{◌≡◌, true, false, [], sym, ◌∙◌, ap, is_some}, lemmas.List.Elements.{All-nil, All-same}}
use Rattle.fb_types.specs.{Library.Seen.{has_name}, Reaches.{IsRecursive}}
use Rattle.fb_types.proofs.FoundUnits.{if_ok}
use Rattle.fb_flatten.specs.{Blocking.{AreThose, is_some_name}, Inner.{IsInnerNet}, Net.{plain_net}}
use Rattle.fb_flatten.proofs.{ComputedNets.{has_by_text, net_at_is}, NetLemmas.{none_of_not, recursive_those, some_not_none, some_recursive}}
use Rattle.fb_flatten.proofs.{RestLemmas.{recursive_within, sound_of_finite, unit_order}, SuspectLemmas.{blocking_found, present_of_net}}
use Rattle.fb_flatten.proofs.computing.compute.Goals as goal

pub returns-then-has_some : goal.returns-then-has_some
returns-then-has_some g c =
    let sources = g.V.View.sources c.args.view.now in
    let unit = c.args.unit in
    let names = c.in_ok-suspects.suspects.items in
    let found = c.in_ok-found.found.items in
    let those = blocking_found (g.K.Hints.hints c.args.known.now) sources unit names found (has_name c.in_ok-parts.parts.keys) c.in_ok-suspects.ensures (rw c.as_slice.ensures.value at c.in_ok-parts.ensures) (rw c.as_slice-2.ensures.value at c.in_ok-found.ensures) in
    let some : is_some_name found ≡ true = ap is_some_name (sym c.as_slice-3.ensures.value) ∙ sym c.has_some.ensures ∙ c.if-has_some.true in
    record {
      net = rw c.alone.ensures.net ((net_at_is sources unit _).1 ((has_by_text sources unit).0 c.requires.net, (those, some_not_none found some)));
      inner = All-same (IsInnerNet sources unit) c.alone.result.inner.items [] c.alone.ensures.inner (All-nil (IsInnerNet sources unit));
    }

pub returns-in-None : goal.returns-in-None
returns-in-None g c =
    let sources = g.V.View.sources c.args.view.now in
    let unit = c.args.unit in
    let names = c.in_ok-suspects.suspects.items in
    let found = c.in_ok-found.found.items in
    let known = c.in_ok-suspects.ensures in
    let those = blocking_found (g.K.Hints.hints c.args.known.now) sources unit names found (has_name c.in_ok-parts.parts.keys) known (rw c.as_slice.ensures.value at c.in_ok-parts.ensures) (rw c.as_slice-2.ensures.value at c.in_ok-found.ensures) in
    let none : is_some_name found ≡ false = ap is_some_name (sym c.as_slice-3.ensures.value) ∙ sym c.has_some.ensures ∙ c.if-has_some.false in
    let whole = rw (none_of_not found none) at those in
    let far = c.in_ok-names-in-None.ensures in
    let back = c.in_ok-back-in-None.back.items in
    let same = c.as_slice-in-None.ensures.value in
    let loops : AreThose sources unit (IsRecursive sources) back =
    recursive_those c.in_ok-names-in-None.names.items back far.sound far.complete (c.in_ok-back-in-None.ensures.sorted (rw same far.ordered)) (λ v. rw same at (c.in_ok-back-in-None.ensures.members v)) in
    let cycle = rw c.as_slice-4.ensures.value at (c.in_ok-order_of.ensures.recursive (ap is_some c.in-None.is)) in
    record {
      net = rw c.alone-in-None.ensures.net
          ((net_at_is sources unit _).1 ((has_by_text sources unit).0 c.requires.net, (whole, loops, some_recursive back loops (recursive_within (g.K.Hints.hints c.args.known.now) sources unit names known.sound cycle))));
      inner = All-same (IsInnerNet sources unit) c.alone-in-None.result.inner.items [] c.alone-in-None.ensures.inner (All-nil (IsInnerNet sources unit));
    }

pub compute_in_order-requires-clause-net : goal.compute_in_order-requires-clause-net
compute_in_order-requires-clause-net g c = (has_by_text (g.V.View.sources c.args.view.now) c.args.unit).0 c.requires.net

pub compute_in_order-requires-clause-order : goal.compute_in_order-requires-clause-order
compute_in_order-requires-clause-order g c =
    let sources = g.V.View.sources c.args.view.now in
    let unit = c.args.unit in
    let names = c.in_ok-suspects.suspects.items in
    let found = c.in_ok-found.found.items in
    let known = c.in_ok-suspects.ensures in
    let those = blocking_found (g.K.Hints.hints c.args.known.now) sources unit names found (has_name c.in_ok-parts.parts.keys) known (rw c.as_slice.ensures.value at c.in_ok-parts.ensures) (rw c.as_slice-2.ensures.value at c.in_ok-found.ensures) in
    let none : is_some_name found ≡ false = ap is_some_name (sym c.as_slice-3.ensures.value) ∙ sym c.has_some.ensures ∙ c.if-has_some.false in
    let whole = rw (none_of_not found none) at those in
    let hints = g.K.Hints.hints c.args.known.now in
    let finite = rw (c.in-Some.is, c.as_slice-4.ensures.value) at c.in_ok-order_of.ensures.finite in
    let sound = sound_of_finite hints sources unit c.requires.right names (present_of_net sources unit c.requires.net) whole known.recursive finite in
    rw c.as_slice-in-Some.ensures.value
    (unit_order hints sources unit c.requires.right c.in-Some.order.items sound (rw c.in-Some.is at c.in_ok-order_of.ensures.ordered) (rw c.in-Some.is at c.in_ok-order_of.ensures.whole))

pub returns : goal.returns
returns g c =
    let sources = g.V.View.sources c.args.view.now in
    let unit = c.args.unit in
    record {
      net = if_ok c.compute_in_order.result (λ it is. (net_at_is sources unit (plain_net it.net)).1 ((has_by_text sources unit).0 c.requires.net, is)) c.compute_in_order.ensures.net;
      inner = c.compute_in_order.ensures.inner;
    }
