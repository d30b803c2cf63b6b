-- A workbench that is put under a lock with the calls that it has.
use Rattle.std.specs.Prelude.{◌≡◌, ◌↔◌, ◌⊎◌, ◌&&◌, ℕ, Bool, Some, None, not, nat_lt}
use Rattle.fb_bench.specs.History.BenchView.{BenchView, all_turns, IsFull}
use Rattle.fb_locked.specs.{Book.{is_first}, Closing.{IsLeast}, Refusals.{refusal_of}, Seats.{LockedView, SeatView}}
use Rattle.fb_locked.specs.{declared.locked.SharedRefused.TheVariants.{HistoryFull}, declared.resume.ResumeError.{ResumeError}}
use Rattle.fb_locked.specs.declared.resume.ResumeError.TheVariants.{CallersFew, Memory}

-- a caller with calls, for whom no seat is made
abbrev pub is_left_out : BenchView → ℕ → ℕ → Bool
is_left_out bench callers q = nat_lt 0 (all_turns bench q) && not (is_first callers q)

-- why a workbench is not put under a lock: the least such caller, or lack of memory if there is none
abbrev pub IsResumeFault : BenchView → ℕ → ResumeError → Type 0
IsResumeFault bench callers (CallersFew q) = IsLeast (is_left_out bench callers) (Some q)
IsResumeFault bench callers Memory = IsLeast (is_left_out bench callers) None

-- only a full history, or lack of memory, can refuse the next call with the seat
abbrev pub IsUpToDate : LockedView → SeatView → Type 0
IsUpToDate locked seat =
    ((refusal_of locked seat ≡ None) ⊎ (refusal_of locked seat ≡ Some HistoryFull)) × ((refusal_of locked seat ≡ Some HistoryFull) ↔ IsFull locked.bench.log)
