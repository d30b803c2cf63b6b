-- One part more.
use Rattle.std.proofs.Common.{ℕ, ◌++◌, List, sym, ap, ◌∙◌}
use Rattle.fb_placing.proofs.TextPartLemmas.{joined_all, joined_more, part_text}
use Rattle.fb_placing.proofs.plan.text_parts.write_parts.Goals as goal

pub loop-part-preserved : goal.loop-part-preserved
loop-part-preserved c =
    let parts = c.args.parts.now in
    let i = c.loop-part.part-index in
    c.in_ok-push_str.ensures.bytes
    ∙ ap (λ (t : List ℕ). t ++ part_text parts i) c.loop-part.invariant
    ∙ sym (joined_more parts i c.loop-part-test.true)

pub returns : goal.returns
returns c = c.loop-part.invariant ∙ joined_all c.args.parts.now c.loop-part.part-index c.loop-part-test.false
