-- The length of the parts passed so far, each of which has fewer than 2 ^ 64 bytes.
use Rattle.std.proofs.Common.{◌≡◌, ◌≤◌, ◌*◌, length, take}
use Rattle.fb_placing.specs.TextParts.{joined}
use Rattle.fb_placing.proofs.plan.text_parts.length_of.Given as goal

abbrev pub invariant-loop-part : goal.invariant-loop-part
invariant-loop-part l = record {
  total : l.length ≡ length (joined (take l.part-index l.parts));
  bound : l.length ≤ l.part-index * 18446744073709551616;
}
