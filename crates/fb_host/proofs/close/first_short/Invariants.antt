use Rattle.std.proofs.Common.{map}
use Rattle.std.specs.Map.Iter.{deref}
use Rattle.fb_locked.specs.Closing.{IsLeast}
use Rattle.fb_host.proofs.Shorts.{short_seen}
use Rattle.fb_host.proofs.close.first_short.Given as goal

abbrev pub invariant-loop-caller : goal.invariant-loop-caller
invariant-loop-caller l = IsLeast (short_seen (map deref l.yielded) l.bench l.receipts) l.least
