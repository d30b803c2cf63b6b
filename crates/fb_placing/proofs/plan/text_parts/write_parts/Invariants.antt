use Rattle.std.proofs.Common.{◌≡◌, take, string_bytes}
use Rattle.fb_placing.specs.TextParts.{joined}
use Rattle.fb_placing.proofs.plan.text_parts.write_parts.Given as goal

abbrev pub invariant-loop-part : goal.invariant-loop-part
invariant-loop-part l = string_bytes l.text ≡ joined (take l.part-index l.parts)
