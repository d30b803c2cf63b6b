use Rattle.std.proofs.Common.{◌≡◌, [], ◌∷◌, ◌++◌, ◌∙◌, List, ap, subst, sym}
use Rattle.fb_shared.specs.Locked.Seats.{ReceiptView, SeatView}
use Rattle.fb_serve.specs.Shown.{AreShown}
use Rattle.fb_serve.proofs.Counts.{shown_with}
use Rattle.fb_serve.proofs.callers.Results.add.Goals as goal

pub invariant_of-self-in-Ok-1 : goal.invariant_of-self-in-Ok-1
invariant_of-self-in-Ok-1 c =
    let before = c.args.self.now in
    let left = c.args.left in
    let seats : c.push_reserved.new.self.items ≡ before.seats.items ++ left.seat ∷ [] = c.push_reserved.ensures.items ∙ ap (λ (l : List SeatView). l ++ left.seat ∷ []) c.reserve.ensures.items in
    let receipts : c.append.new.self.items ≡ before.receipts.items ++ left.receipts.items = c.in-Ok.ensures.items in
    let both = shown_with before.receipts.items left.receipts.items before.seats.items left.seat before.shown left.shown in
    let more = subst (λ (l : List ReceiptView). AreShown l (before.seats.items ++ left.seat ∷ [])) (sym receipts) both in
    record { shown = subst (λ (l : List SeatView). AreShown c.append.new.self.items l) (sym seats) more }
