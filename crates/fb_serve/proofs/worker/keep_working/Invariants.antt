use Rattle.fb_serve.specs.AddedReceipts.{AddsRun}
use Rattle.fb_serve.proofs.worker.keep_working.Given as goal

abbrev pub invariant-loop : goal.invariant-loop
invariant-loop g l = AddsRun l.fn.state.seat l.fn.state.receipts.items l.state.seat l.state.receipts.items
