use Rattle.std.proofs.Common.{take}
use Rattle.fb_locked.specs.Closing.{AreReceiptsRight}
use Rattle.fb_locked.proofs.receipts.check_by_pairs.Given as goal

abbrev pub invariant-loop-place : goal.invariant-loop-place
invariant-loop-place l = AreReceiptsRight l.bench (take l.place l.receipts)
