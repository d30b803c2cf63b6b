use Rattle.std.proofs.Common.{[]}
use Rattle.fb_locked.specs.Book.{HasCounts}
use Rattle.fb_locked.proofs.callers.count_first.Given as goal

abbrev pub invariant-loop-index : goal.invariant-loop-index
invariant-loop-index l = HasCounts l.counts l.index [] l.bench
