use Rattle.std.proofs.Common.{◌∙◌, ap}
use Rattle.fb_shared.specs.Locked.Seats.{SeatView}
use Rattle.fb_serve.proofs.Counts.{adds_shown}
use Rattle.fb_serve.proofs.callers.worker_thread.Goals as goal

pub of-requires : goal.of-requires
of-requires g c =
    adds_shown _ _ _ _ (ap (λ (s : SeatView). s.turns) c.new-state.ensures.seat ∙ c.args.seat.is_new) c.new-state.ensures.none c.keep_working-end.ensures
