-- What a worker knows of the workbench that was under the lock at its looks.
use Rattle.std.proofs.Common.{◌≡◌, ◌≢◌, ◌⊎◌, inl, inr, ℕ, List, Option, Some, None, option_map, sym, subst, ◌∙◌, Bool, true, false, if◌then◌else◌}
use Rattle.fb_locked.specs.declared.locked.SharedRefused.{SharedRefused}
use Rattle.fb_locked.specs.{declared.look.Look.{Look}, declared.look.WorkEnd.{WorkEnd}, Seats.{LockedView, SeatView, ReceiptView}, Refusals.{refusal_of}}
use Rattle.fb_locked.specs.Ends.{Looks, EndsAs, end_before_take, end_of}
use Rattle.fb_locked.specs.declared.look.Look.TheVariants.{Ended, Nothing, Taken}
use Rattle.fb_locked.specs.declared.look.WorkEnd.TheVariants.{TurnsOver, Stopped, Memory}
use Rattle.fb_locked.specs.declared.locked.SharedRefused.TheVariants as cause
use Rattle.fb_shared.specs.UnderLock.{IsReplayed, HasLooked, IsLookOf, MayLook}

not_over : (cause : SharedRefused) → end_of cause ≢ TurnsOver
not_over (cause.SeatDiffers turns book) is = cc
not_over (cause.Behind seen len) is = cc
not_over cause.HistoryFull is = cc
not_over cause.Memory is = cc

refused_not_over : (first : Option SharedRefused) (end : WorkEnd) → EndsAs (option_map end_of first) end → end ≢ TurnsOver
refused_not_over None end is over = let no : Memory ≡ TurnsOver = sym is ∙ over in cc
refused_not_over (Some cause) end is over = not_over cause (sym is ∙ over)

ended_not_over : (locked : LockedView) (seat : SeatView) (end : WorkEnd) → EndsAs (end_before_take locked seat) end → end ≢ TurnsOver
ended_not_over locked seat end is over = by_stop locked.stopped is
  where
    by_stop : (stopped : Bool) → EndsAs (if stopped then Some Stopped else option_map end_of (refusal_of locked seat)) end → ⊥
    by_stop true is = let no : Stopped ≡ TurnsOver = sym is ∙ over in cc
    by_stop false is = refused_not_over (refusal_of locked seat) end is over

pub looked : (locked after : LockedView) (seat seat' : SeatView) (look : Look) (old new : List ReceiptView) → IsReplayed locked → Looks locked seat look old after seat' new → IsLookOf seat look
looked locked after seat seat' (Ended end) old new replayed looks = ended_not_over locked seat end looks.0
looked locked after seat seat' Nothing old new replayed looks = (locked, replayed, looks.0)
looked locked after seat seat' (Taken job) old new replayed looks = (locked, replayed, looks.0)

-- ---- the first turn of a worker

pub ended_looked : (seat : SeatView) (end : WorkEnd) → end ≢ TurnsOver → HasLooked seat (Some end)
ended_looked seat end never is = absurd (never is)

pub has_looked : (seat : SeatView) (end : Option WorkEnd) → MayLook seat → HasLooked seat end
has_looked seat None may = may
has_looked seat (Some end) may = λ _. may

-- before its first turn a worker has the seat that it began with; after that it is known that this seat may look
abbrev pub Began : ℕ → SeatView → SeatView → Type 0
Began turns first now = ((turns ≡ 0) × (now ≡ first)) ⊎ MayLook first

pub began_with : (turns : ℕ) (first now : SeatView) → Began turns first now → MayLook now → MayLook first
began_with turns first now (inl none) may = subst MayLook none.1 may
began_with turns first now (inr first_may) may = first_may

pub began_or_none : (turns all : ℕ) (first now : SeatView) → turns ≡ all → Began turns first now → (all ≡ 0) ⊎ MayLook first
began_or_none turns all first now same (inl none) = inl (sym same ∙ none.0)
began_or_none turns all first now same (inr may) = inr may
