-- One part more of each.
use Rattle.std.proofs.Common.{◌≡◌, ◌++◌, sym, ◌∙◌, arith}
use Rattle.fb_placing.proofs.TextPartLemmas.{joined_more, part_text, same_unless}
use Rattle.fb_placing.proofs.plan.text_parts.are_same_parts.Goals as goal

pub loop-place-preserved : goal.loop-place-preserved
loop-place-preserved c =
    let a = c.args.a.now in
    let b = c.args.b.now in
    let k = c.loop-place.place in
    let same : part_text a k ≡ part_text b k = same_unless (part_text a k) (part_text b k) c.ne.result c.ne.ensures c.if-ne.false in
    joined_more a k c.loop-place-test.true
    ∙ (λ i. c.loop-place.invariant i ++ same i)
    ∙ sym (joined_more b k (omega (arith, c.loop-place-test.true, c.if-a-b.false)))
