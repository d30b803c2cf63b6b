use Rattle.std.proofs.{Common.{◌≡◌, ◌∙◌, ap, map, rules}, lemmas.Map.Iter.{iter_end}}
use Rattle.std.specs.{BTreeMap.{keys}, Map.{keys_of}, Map.Iter.{deref}}
use Rattle.fb_locked.proofs.{Closings.{least_more, least_same}, EachCaller.{unseated_all, unseated_more, unseated_none}}
use Rattle.fb_locked.proofs.callers.missing_seat.Goals as goal

pub loop-caller-init : goal.loop-caller-init
loop-caller-init c = least_same _ _ c.missing_first-least.result (λ q. unseated_none c.args.callers c.args.bench.now c.args.seats.now q) c.missing_first-least.ensures

pub loop-caller-preserved : goal.loop-caller-preserved
loop-caller-preserved c =
    let k = c.in-Some.caller in
    rw (c.lesser-least.ensures, c.is_unseated-missing.ensures) (
    least_more _ _ c.loop-caller.least k.now _ c.loop-caller.invariant (λ q. unseated_more c.args.callers c.args.bench.now c.args.seats.now c.loop-caller.yielded k q)
    )

pub returns : goal.returns
returns c =
    let seen : map deref c.loop-caller.yielded ≡ keys c.pages.result.now = search (rules, iter_end) in
    least_same _ _ c.loop-caller.least (λ q. unseated_all c.args.callers c.args.bench.now c.args.seats.now _ q (seen ∙ ap keys_of c.pages.ensures)) c.loop-caller.invariant
