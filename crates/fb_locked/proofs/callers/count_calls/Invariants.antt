use Rattle.std.proofs.Common.{map}
use Rattle.std.specs.Map.Iter.{deref}
use Rattle.fb_locked.specs.Book.{HasCounts}
use Rattle.fb_locked.proofs.callers.count_calls.Given as goal

abbrev pub invariant-loop-caller : goal.invariant-loop-caller
invariant-loop-caller l = HasCounts l.counts l.callers (map deref l.yielded) l.bench
