use Rattle.std.proofs.Common.{◌≡◌, ◌++◌, take}
use Rattle.fb_netcheck.specs.Repeats.{second_sources}
use Rattle.fb_netcheck.proofs.repeats.report_sources.Given as goal

abbrev pub invariant-loop-i : goal.invariant-loop-i
invariant-loop-i l = l.found.items ≡ l.initial.found.items ++ second_sources (take l.i l.connections)
