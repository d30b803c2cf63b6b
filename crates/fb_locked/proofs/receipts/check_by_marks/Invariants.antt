use Rattle.std.proofs.Common.{◌≡◌, ◌+◌, ◌<◌, ℕ, length, take, get_or, cond, false}
use Rattle.fb_locked.specs.Closing.{AreReceiptsRight, times}
use Rattle.fb_locked.proofs.receipts.check_by_marks.Given as goal

abbrev pub invariant-loop-receipt : goal.invariant-loop-receipt
invariant-loop-receipt l = record {
  right : AreReceiptsRight l.bench (take l.receipt-index l.receipts);
  size : length l.marks.items ≡ length l.bench.log.records;
  marks : (n : ℕ) → n < length l.marks.items → cond (get_or l.marks.items n false) 1 0 ≡ times (l.bench.origin.before + n + 1) (take l.receipt-index l.receipts);
}
