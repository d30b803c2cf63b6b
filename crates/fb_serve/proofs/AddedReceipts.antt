-- What calls with a seat add to its receipts.
use Rattle.std.proofs.Common.{◌≡◌, ℕ, [], ◌∷◌, ◌++◌, ◌∙◌, Err, List, Ok, Option, Result, ap, append-nil, append_assoc, inl, inr, refl, subst, sym}
use Rattle.fb_wire.specs.History.Machine.{Call}
use Rattle.fb_shared.specs.{Locked.Jobs.declared.keys.key.Key.{Key}, Locked.Rolling.{MayReturn}, Locked.Runs.{Empty, IsRun, Works}}
use Rattle.fb_shared.specs.{Locked.Seats.{IsReceiptOf, ReceiptView, SeatView, seat_after}, Locked.declared.locked.SharedRefused.{SharedRefused}}
use Rattle.fb_shared.specs.Locked.declared.look.WorkEnd.{WorkEnd}
use Rattle.fb_serve.specs.AddedReceipts.{AddsRun}

pub run_append : (seat : SeatView) (xs ys : List ReceiptView) (middle after : SeatView) → IsRun seat xs middle → IsRun middle ys after → IsRun seat (xs ++ ys) after
run_append seat [] ys middle after one two = subst (λ (s : SeatView). IsRun s ys after) one two
run_append seat (x ∷ xs) ys middle after one two = (one.0, run_append (seat_after seat x) xs ys middle after one.1 two)

pub adds_nothing : (seat : SeatView) (old : List ReceiptView) → AddsRun seat old seat old
adds_nothing seat old = ([], sym (append-nil old), refl)

pub adds_same : (seat : SeatView) (old : List ReceiptView) (after : SeatView) (new : List ReceiptView) → after ≡ seat → new ≡ old → AddsRun seat old after new
adds_same seat old after new stays is = ([], is ∙ sym (append-nil old), stays)

pub adds_on : (seat : SeatView) (old : List ReceiptView) (middle : SeatView) (between : List ReceiptView) (after : SeatView) (new : List ReceiptView) → AddsRun seat old middle between → AddsRun middle between after new → AddsRun seat old after new
adds_on seat old middle between after new one two = (
  one.0 ++ two.0,
  two.1 ∙ ap (λ (l : List ReceiptView). l ++ two.0) one.1 ∙ append_assoc old one.0 two.0,
  run_append seat one.0 two.0 middle after one.2 two.2,
)

pub adds_back : (seat after : SeatView) (key : Key) (T : Type 0) (result : Result T SharedRefused) (old new : List ReceiptView) → MayReturn seat key result old after new → AddsRun seat old after new
adds_back seat after key T (Ok done) old new (inl given) =
    let is : IsReceiptOf seat given.0.entry.call given.0 = subst (λ (c : Call). IsReceiptOf seat c given.0) (sym given.2.call_is) given.2 in
    (given.0 ∷ [], given.1, (is, given.3))
adds_back seat after key T (Ok done) old new (inr stays) = adds_same seat old after new stays.1 stays.0
adds_back seat after key T (Err refused) old new stays = adds_same seat old after new stays.2 stays.1

pub adds_work : (most : ℕ) (seat after : SeatView) (old new : List ReceiptView) (end : Option WorkEnd) → Works Empty most seat old new after end → AddsRun seat old after new
adds_work most seat after old new end works = (works.1.added, works.1.behind, works.1.run)

pub ruleset adds = (adds_nothing, adds_same, adds_on, adds_back, adds_work)
