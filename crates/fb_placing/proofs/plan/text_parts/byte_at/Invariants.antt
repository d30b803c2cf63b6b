-- The byte is among the parts that are left.
use Rattle.std.proofs.Common.{◌≡◌, drop}
use Rattle.std.specs.Prelude.{slice_get}
use Rattle.fb_placing.specs.TextParts.{joined}
use Rattle.fb_placing.proofs.plan.text_parts.byte_at.Given as goal

abbrev pub invariant-loop-part : goal.invariant-loop-part
invariant-loop-part l = slice_get (joined (drop l.part-index l.parts)) l.left ≡ slice_get (joined l.parts) l.place
