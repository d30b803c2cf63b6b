-- The receipt of the next record is one of the seat that fits.
use Rattle.std.proofs.Common.{◌≡◌, ◌+◌, ◌≤◌, refl, ap, sym, subst, arith}
use Rattle.fb_bench.specs.History.Machine.{State, Call, ToCommit, ToTake, ToDeliver, ToGiveBack, ToAsk, reply}
use Rattle.fb_bench.specs.{History.BenchView.{IsOrigin, IsReplay, all_turns, last_number, state_of}, Calls.{Fits}}
use Rattle.fb_locked.specs.Seats.{LockedView, SeatView, ReceiptView, next_receipt, IsReceiptOf}

-- the machine's reply is of the call's kind
pub fits_reply : (state : State) (call : Call) → Fits call (reply state call)
unfolding reply
fits_reply state (ToCommit edits) = tt
fits_reply state ToTake = tt
fits_reply state (ToDeliver job) = tt
fits_reply state (ToGiveBack key) = tt
fits_reply state (ToAsk key) = tt

pub answered : (locked : LockedView) (seat : SeatView) (call : Call) (receipt : ReceiptView) → receipt ≡ next_receipt locked.bench seat.caller call → all_turns locked.bench seat.caller ≡ seat.turns → seat.seen ≤ last_number locked.bench → IsOrigin locked.bench.origin → IsReplay locked.bench → IsReceiptOf seat call receipt
answered locked seat call receipt is turns seen begins replayed =
    let fits : IsReceiptOf seat call (next_receipt locked.bench seat.caller call) =
    record {
      caller_is = refl;
      call_is = refl;
      turn_is = ap (λ n. n + 1) turns;
      reply_fits = fits_reply (state_of locked.bench) call;
      later = omega arith;
      recorded_is = (locked.bench, begins, replayed, refl);
    } in
    subst (IsReceiptOf seat call) (sym is) fits
