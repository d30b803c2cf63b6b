use Rattle.std.proofs.Common.{◌≡◌, ◌++◌, map}
use Rattle.fb_iface.specs.{Fault.{faults_at}, declared.code.Code.TheVariants.{Duplicate}}
use Rattle.fb_iface.proofs.RepeatLemmas.{repeated_among}
use Rattle.fb_iface.proofs.repeats.report_among_few.Given as goal

abbrev pub invariant-loop-i : goal.invariant-loop-i
invariant-loop-i g l = l.found.items ≡ l.initial.found.items ++ faults_at Duplicate (repeated_among l.i (map g.T.Named.name_of l.declarations))
