use Rattle.std.proofs.Common.{ℕ, ◌≡◌, ◌<◌, [], Some, length}
use Rattle.fb_placing.specs.ByResource.{indexes_at}
use Rattle.fb_placing.proofs.plan.by_resource.empty_lists.Given as goal

abbrev pub invariant-loop : goal.invariant-loop
invariant-loop l = record {
  items : (k : ℕ) → k < l.counter → indexes_at l.lists.items k ≡ Some [];
  count : length l.lists.items ≡ l.counter;
}
