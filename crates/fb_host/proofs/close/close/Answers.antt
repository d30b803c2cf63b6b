use Rattle.std.proofs.Common.{List, None, sym, ◌∙◌, subst}
use Rattle.fb_locked.specs.{Closing.{AgreesWith, IsLeast}, Seats.{ReceiptView}}
use Rattle.fb_host.specs.Short.{is_short}
use Rattle.fb_host.proofs.Shorts.{all_there, nobody}
use Rattle.fb_host.proofs.close.close.Goals as goal

pub returns-clause-all : goal.returns-clause-all
returns-clause-all c c' =
    let closed = c'.in-Ok.ensures.closed in
    let seats = c'.args.results.seats.items in
    let receipts = c'.into_receipts-receipts.result.items in
    let bench = c'.in-Ok.closed.bench in
    let agrees = subst (λ (l : List ReceiptView). AgreesWith c'.args.shared.callers bench seats l) c'.deref.ensures.value closed.0 in
    let none = nobody (is_short bench c'.deref-2.result.now) c'.first_short.result (sym c'.is_some.ensures ∙ c'.if-is_some.false) c'.first_short.ensures in
    all_there c'.args.shared.callers bench seats receipts agrees (subst (λ (l : List ReceiptView). IsLeast (is_short bench l) None) c'.deref-2.ensures.value none)
