use Rattle.std.proofs.Common.{◌≡◌, take, string_bytes}
use Rattle.fb_network.specs.Printed.{printed}
use Rattle.fb_placing.specs.Mappings.{names_used}
use Rattle.fb_placing.proofs.homes.mappings.joined.Given as goal

abbrev pub invariant-loop-i : goal.invariant-loop-i
invariant-loop-i l = string_bytes l.text ≡ printed (names_used (take l.i l.names))
