-- The machine's pending keys are those that are due.
use Rattle.std.proofs.Common.{◌∙◌}
use Rattle.fb_history.specs.BenchView.{calls_of}
use Rattle.fb_bench.proofs.Entries.{due_shown}
use Rattle.fb_history.proofs.AfterCalls.{entry_is}
use Rattle.fb_bench.proofs.bench.Bench.peek.Goals as goal

pub returns-clause-due : goal.returns-clause-due
returns-clause-due c = due_shown c.lent.result c.args.self.now c.args.key.now c.lent.ensures.begins c.lent.ensures.shown

pub returns-clause-entry : goal.returns-clause-entry
returns-clause-entry c = c.lent.ensures.shown ∙ entry_is c.args.self.now.origin (calls_of c.args.self.now.log) c.args.key.now c.lent.ensures.begins
