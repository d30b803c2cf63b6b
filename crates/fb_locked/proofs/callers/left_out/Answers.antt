use Rattle.std.proofs.{Common.{◌≡◌, ◌∙◌, ap, map, rules}, lemmas.Map.Iter.{iter_end}}
use Rattle.std.specs.{BTreeMap.{keys}, Map.{keys_of}, Map.Iter.{deref}}
use Rattle.fb_locked.proofs.{Closings.{least_more, least_same}, EachCaller.{beyond_all, beyond_more}}
use Rattle.fb_locked.proofs.callers.left_out.Goals as goal

pub loop-caller-preserved : goal.loop-caller-preserved
loop-caller-preserved c =
    let k = c.in-Some.caller in
    rw (c.lesser-least.ensures, c.is_beyond-beyond.ensures) (
    least_more _ _ c.loop-caller.least k.now _ c.loop-caller.invariant (λ q. beyond_more c.args.callers c.args.bench.now c.loop-caller.yielded k q)
    )

pub returns : goal.returns
returns c =
    let seen : map deref c.loop-caller.yielded ≡ keys c.pages.result.now = search (rules, iter_end) in
    least_same _ _ c.loop-caller.least (λ q. beyond_all c.args.callers c.args.bench.now _ q (seen ∙ ap keys_of c.pages.ensures)) c.loop-caller.invariant
