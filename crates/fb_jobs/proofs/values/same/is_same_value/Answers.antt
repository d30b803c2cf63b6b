use Rattle.fb_jobs.proofs.Alike.{one_fault}
use Rattle.fb_jobs.proofs.values.same.is_same_value.Goals as goal

pub are_equal-requires : goal.are_equal-requires
are_equal-requires c = one_fault
