-- Nothing is kept, and nothing has happened.
use Rattle.fb_bench.proofs.Empty.{kept_empty}
use Rattle.fb_bench.proofs.bench.Bench.new.Goals as goal

pub invariant_of-result : goal.invariant_of-result
invariant_of-result c = kept_empty _ _ _ _ _ _ c.new-2.ensures c.new-3.ensures.entries c.new-3.ensures.ready c.new-4.ensures c.new.ensures
