-- No names are in order.
use Rattle.fb_library.proofs.Places.{none_sorted}
use Rattle.fb_library.proofs.table.Table.new.Goals as goal

pub invariant_of-result : goal.invariant_of-result
invariant_of-result g c = rw c.new.ensures none_sorted
