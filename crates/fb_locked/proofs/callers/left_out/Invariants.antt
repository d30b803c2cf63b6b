use Rattle.std.proofs.Common.{map}
use Rattle.std.specs.Map.Iter.{deref}
use Rattle.fb_locked.specs.Closing.{IsLeast}
use Rattle.fb_locked.proofs.EachCaller.{is_beyond}
use Rattle.fb_locked.proofs.callers.left_out.Given as goal

abbrev pub invariant-loop-caller : goal.invariant-loop-caller
invariant-loop-caller l = IsLeast (is_beyond (map deref l.yielded) l.bench l.callers) l.least
