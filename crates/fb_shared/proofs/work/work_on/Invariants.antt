use Rattle.std.proofs.Common.{◌*◌}
use Rattle.fb_locked.specs.Runs.{AddsWork, Empty}
use Rattle.fb_shared.proofs.Holds.{Began}
use Rattle.fb_shared.proofs.work.work_on.Given as goal

abbrev pub invariant-looks : goal.invariant-looks
invariant-looks g l =
    AddsWork Empty (2 * l.counter) l.fn.seat l.fn.receipts.items l.receipts.items l.seat Empty × Began l.counter l.fn.seat l.seat
