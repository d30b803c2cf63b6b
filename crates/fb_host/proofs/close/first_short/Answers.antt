use Rattle.std.proofs.{Common.{◌≡◌, ◌∙◌, ap, map, rules}, lemmas.Map.Iter.{iter_end}}
use Rattle.std.specs.{BTreeMap.{keys}, Map.{keys_of}, Map.Iter.{deref}}
use Rattle.fb_locked.proofs.Closings.{least_more, least_same}
use Rattle.fb_host.proofs.Shorts.{short_all, short_more}
use Rattle.fb_host.proofs.close.first_short.Goals as goal

pub loop-caller-preserved : goal.loop-caller-preserved
loop-caller-preserved c =
    let k = c.in-Some.caller in
    rw (c.lesser-least.ensures, c.has_few-short.ensures) (
    least_more _ _ c.loop-caller.least k.now _ c.loop-caller.invariant (λ q. short_more c.args.bench.now c.args.receipts.now c.loop-caller.yielded k q)
    )

pub returns : goal.returns
returns c =
    let seen : map deref c.loop-caller.yielded ≡ keys c.pages.result.now = search (rules, iter_end) in
    least_same _ _ c.loop-caller.least (λ q. short_all c.args.bench.now c.args.receipts.now _ q (seen ∙ ap keys_of c.pages.ensures)) c.loop-caller.invariant
