-- A byte of the part, or of those behind it.
use Rattle.std.proofs.Common.{ℕ, ◌-◌, List, Some, length, get_or, sym, ap, ◌∙◌, arith}
use Rattle.fb_placing.proofs.TextPartLemmas.{part_behind, part_here, part_text}
use Rattle.fb_placing.proofs.plan.text_parts.byte_at.Goals as goal

pub returns-then-left-length : goal.returns-then-left-length
returns-then-left-length c =
    ap (λ (t : List ℕ). Some (get_or t c.loop-part.left 0)) c.as_bytes.ensures.value
    ∙ sym (part_here c.args.parts.now c.loop-part.part-index c.loop-part.left 0 c.loop-part-test.true c.if-left-length.true)
    ∙ c.loop-part.invariant

pub loop-part-preserved : goal.loop-part-preserved
loop-part-preserved c =
    let left = c.loop-part.left in
    let text = part_text c.args.parts.now c.loop-part.part-index in
    sym (part_behind c.args.parts.now c.loop-part.part-index left (left - length text) c.loop-part-test.true (omega (arith, c.if-left-length.false)))
    ∙ c.loop-part.invariant
