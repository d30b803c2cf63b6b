use Rattle.std.proofs.Common.{◌≡◌}
use Rattle.fb_history.specs.Records.{records_in}
use Rattle.fb_bench.proofs.Telling.{records_up_to}
use Rattle.fb_bench.proofs.bench.Bench.records_up_to.Given as goal

abbrev pub invariant-loop-number : goal.invariant-loop-number
invariant-loop-number l = records_in l.records.items ≡ records_up_to l.self l.first l.number
