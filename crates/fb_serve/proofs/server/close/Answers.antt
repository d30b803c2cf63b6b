use Rattle.std.proofs.Common.{List, subst}
use Rattle.fb_shared.specs.{Locked.Closing.{AgreesWith}, Locked.Seats.{ReceiptView}}
use Rattle.fb_serve.proofs.Counts.{all_shown}
use Rattle.fb_serve.proofs.server.close.Goals as goal

pub returns-in-Ok-clause-all : goal.returns-in-Ok-clause-all
returns-in-Ok-clause-all c =
    let closed = c.in-Ok.ensures.closed in
    let seats = c.args.results.seats.items in
    let receipts = c.args.results.receipts.items in
    let bench = c.in-Ok.closed.bench in
    let agrees = subst (λ (l : List ReceiptView). AgreesWith c.args.shared.callers bench seats l) c.deref.ensures.value closed.0 in
    all_shown c.args.shared.callers bench seats receipts agrees c.args.results.shown
