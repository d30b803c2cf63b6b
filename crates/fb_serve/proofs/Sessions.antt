-- What the steps of a desk with a seat leave in its receipts.
use Rattle.std.proofs.Common.{◌≡◌, [], ◌∷◌, ◌++◌, ◌∙◌, List, ap, append-nil, append_assoc, map, refl, subst, sym}
use Rattle.fb_wire.specs.History.Machine.{Call, Reply}
use Rattle.fb_wire.specs.{Bench.Calls.{AskedCall, AskedCheckpoint, AskedRead, BehindHistory, Checked, Exchange, FullHistory, Replied, SharedHistory}, Conversations.{Runs}}
use Rattle.fb_shared.specs.{Locked.Runs.{IsRun}, Locked.Seats.{IsReceiptOf, ReceiptView, SeatView, seat_after}, Seated.{SeatedView, SeatedStep}}
use Rattle.fb_serve.specs.Sessions.{answered_before, answered_in, call_shown}

-- these receipts were added, of the answered calls
abbrev Shows : SeatedView → List (Call × Reply) → SeatedView → Type 0
Shows old answered new =
    (added : List ReceiptView) × (new.receipts ≡ old.receipts ++ added) × (answered ≡ map call_shown added) × IsRun old.seat added new.seat

shows_more : (exchange : Exchange) (old mid new : SeatedView) (answered : List (Call × Reply)) → SeatedStep old exchange mid → Shows mid answered new → Shows old (answered_before exchange answered) new
shows_more (AskedCall call (Replied reply)) old mid new answered step rest =
    let receipt : ReceiptView = step.0 in
    let first : IsReceiptOf old.seat receipt.entry.call receipt = subst (λ (c : Call). IsReceiptOf old.seat c receipt) (sym step.2.call_is) step.2 in
    let more : IsRun (seat_after old.seat receipt) rest.0 new.seat = subst (λ (s : SeatView). IsRun s rest.0 new.seat) step.4 rest.3 in
    let shown : (call, reply) ≡ call_shown receipt = ap (λ (c : Call). (c, reply)) (sym step.2.call_is) ∙ ap (λ (r : Reply). (receipt.entry.call, r)) (sym step.3) in (
      receipt ∷ rest.0,
      rest.1 ∙ ap (λ (l : List ReceiptView). l ++ rest.0) step.1 ∙ append_assoc old.receipts (receipt ∷ []) rest.0,
      ap (λ (l : List (Call × Reply)). (call, reply) ∷ l) rest.2 ∙ ap (λ (p : Call × Reply). p ∷ map call_shown rest.0) shown,
      (first, more),
    )
shows_more (AskedCall call FullHistory) old mid new answered step rest = subst (λ (s : SeatedView). Shows s answered new) step rest
shows_more (AskedCall call BehindHistory) old mid new answered step rest = subst (λ (s : SeatedView). Shows s answered new) step rest
shows_more (AskedCheckpoint limits SharedHistory) old mid new answered step rest = subst (λ (s : SeatedView). Shows s answered new) step rest
shows_more (AskedCheckpoint limits (Checked checking)) old mid new answered step rest = absurd step
shows_more (AskedRead reading shown) old mid new answered step rest = absurd step

runs_show : (pairs : List Exchange) (old new : SeatedView) → Runs SeatedStep old pairs new → Shows old (answered_in pairs) new
runs_show [] old new runs = ([], ap (λ (s : SeatedView). s.receipts) runs ∙ sym (append-nil old.receipts), refl, ap (λ (s : SeatedView). s.seat) runs)
runs_show (p ∷ ps) old new runs = shows_more p old runs.0 new (answered_in ps) runs.1 (runs_show ps runs.0 new runs.2)

-- the same from a desk with no receipts, whose seat and receipts are then taken out
pub session_runs : (pairs : List Exchange) (seat : SeatView) (start : List ReceiptView) (old new : SeatedView) (left : SeatView) (receipts : List ReceiptView) → start ≡ [] → old ≡ record { seat = seat; receipts = start } → Runs SeatedStep old pairs new → record { seat = left; receipts = receipts } ≡ new
    → Runs SeatedStep (record { seat = seat; receipts = [] }) pairs (record { seat = left; receipts = receipts })
session_runs pairs seat start old new left receipts none made runs is =
    let begun : old ≡ record { seat = seat; receipts = [] } = made ∙ ap (λ (l : List ReceiptView). record { seat = seat; receipts = l }) none in
    subst (λ (s : SeatedView). Runs SeatedStep (record { seat = seat; receipts = [] }) pairs s) (sym is) (subst (λ (s : SeatedView). Runs SeatedStep s pairs new) begun runs)

pub session_shown : (pairs : List Exchange) (seat left : SeatView) (receipts : List ReceiptView) → Runs SeatedStep (record { seat = seat; receipts = [] }) pairs (record { seat = left; receipts = receipts }) → (answered_in pairs ≡ map call_shown receipts) × IsRun seat receipts left
session_shown pairs seat left receipts runs =
    let shows = runs_show pairs (record { seat = seat; receipts = [] }) (record { seat = left; receipts = receipts }) runs in
    (shows.2 ∙ ap (map call_shown) (sym shows.1), subst (λ (l : List ReceiptView). IsRun seat l left) (sym shows.1) shows.3)
