use Rattle.std.proofs.Common.{Some}
use Rattle.fb_serve.proofs.AddedReceipts.{adds_on, adds_same, adds_work}
use Rattle.fb_serve.proofs.worker.look_once.Goals as goal

pub returns : goal.returns
returns g c =
    adds_on _ _ _ _ _ _ (adds_work _ _ _ _ _ (Some c.work_on-end.result) c.work_on-end.ensures.works)
    (adds_on _ _ _ _ _ _ (adds_same _ _ _ _ c.hold_unsettled.ensures.seat c.hold_unsettled.ensures.receipts) c.give_back_held.ensures)
