-- The receipt is the next one of the seat.
use Rattle.std.proofs.Common.{◌∙◌, ap, rules}
use Rattle.fb_bench.specs.Requests.{call_for}
use Rattle.fb_locked.specs.Seats.{next_receipt}
use Rattle.fb_locked.proofs.NextReceipts.{answered}
use Rattle.fb_locked.proofs.locked.Locked.perform.Goals as goal

pub returns-clause-answers : goal.returns-clause-answers
returns-clause-answers c =
    let call = call_for c.args.request.now in (
      answered c.args.self.now c.args.seat.now call _ (c.in-Ok.ensures.receipt ∙ ap (λ caller. next_receipt c.args.self.now.bench caller call) c.caller.ensures) c.in_ok-admit.ensures.fits.0 c.in_ok-admit.ensures.fits.1 c.in_ok-admit.ensures.begins c.in_ok-admit.ensures.replayed,
      search rules,
    )
