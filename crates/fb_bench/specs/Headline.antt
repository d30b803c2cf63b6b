-- What an answer shows, which depends only on the texts and the calls, and what a refusal leaves unchanged.
use Rattle.std.specs.Prelude.{◌≡◌, Bool, true, false}
use Rattle.fb_history.specs.{Machine.{Call, ToAsk, Reply, OfAsk, Shown, Finds, Waits, Unknown}, BenchView.{BenchView, calls_of, state_of}, Due.{is_due}}
use Rattle.fb_history.specs.Laws.{entry_after, is_refusal}

abbrev pub is_waiting : Shown → Bool
is_waiting Waits = true
is_waiting Unknown = false
is_waiting (Finds finding) = false

-- An ask shows what the present texts give from scratch, or that the key is pending: if and only if no current result has come since the last commit that
-- made or reached it.
abbrev pub ShowsEntry : BenchView → Call → Reply → Type 0
ShowsEntry bench (ToAsk key) (OfAsk found) = (found ≡ entry_after bench.origin (calls_of bench.log) key) × (is_waiting found ≡ is_due bench key)
ShowsEntry bench _ _ = Unit {0}

-- an answer that refuses its call changes no text, no entry and no handed-out mark
abbrev pub LeavesState : BenchView → Reply → BenchView → Type 0
LeavesState old answer new = is_refusal answer ≡ true → state_of new ≡ state_of old
