use Rattle.std.proofs.Common.{◌*◌}
use Rattle.fb_text.proofs.NameOrder.{IsLeft}
use Rattle.fb_text.proofs.name.NameOrd.cmp.Given as goal

abbrev pub invariant-loop-i : goal.invariant-loop-i
invariant-loop-i l = IsLeft l.self l.other l.self-inside.bytes l.other-inside.bytes (8 * l.i)
