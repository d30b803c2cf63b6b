-- The last one stands at its place; elsewhere it changes nothing.
use Rattle.std.proofs.{Common.{◌≢◌, Some, ap, sym, ◌∙◌, arith, slice_get}, lemmas.Option.{slice_get_within}}
use Rattle.fb_jobs.specs.{Library.Filed.{filed_text}, Replaced.{all_replaced}, Texts.{there}}
use Rattle.fb_jobs.proofs.ReplacedLemmas.{latest_here, latest_elsewhere}
use Rattle.fb_jobs.proofs.keys.texts.+latest.Goals as goal

pub returns-then-last-place : goal.returns-then-last-place
returns-then-last-place t c reads before is =
    let place = c.args.place in
    ap (λ xs. slice_get (all_replaced reads xs) place) c.in-Some.ensures.cases.0
    ∙ latest_here reads c.in-Some.earlier.now c.in-Some.last.now place (slice_get_within reads place before is) (omega (arith, c.if-last-place.true))
    ∙ sym (ap (λ version. Some (there (filed_text version))) c.deref.ensures)

pub returns-else-last-place : goal.returns-else-last-place
returns-else-last-place t c reads before is =
    let place = c.args.place in
    let other : place ≢ c.in-Some.last.now.place = λ same. omega (arith, same, c.if-last-place.false) in
    ap (λ xs. slice_get (all_replaced reads xs) place) c.in-Some.ensures.cases.0
    ∙ latest_elsewhere reads c.in-Some.earlier.now c.in-Some.last.now place other
    ∙ c.latest.ensures reads before is
