-- What holds of a workbench after any calls.
use Rattle.std.specs.Prelude.{◌≡◌, ℕ, Bool, true, false, not, List, if◌then◌else◌}
use Rattle.fb_jobs.specs.{Library.Texts.{Texts}, declared.keys.key.Key.{Key}, Rules.{Rules}}
use Rattle.fb_history.specs.declared.answers.Committed.{Committed}
use Rattle.fb_history.specs.declared.answers.Committed.TheVariants.{Done, NoChange, TooManyChanges, SameUnitTwice, StaleBase, NoSuchUnit, TooManyUnits}
use Rattle.fb_history.specs.Machine.{StateBy, Call, Reply, OfCommit, OfTake, OfDeliver, OfGiveBack, OfAsk, Shown, Finds, Waits, Unknown, shown, reply, after, reaches}
use Rattle.fb_history.specs.{declared.answers.Delivered.{Delivered}, declared.answers.Delivered.TheVariants.{Accepted, NoSuchKey, NotPending, Stale}}
use Rattle.fb_history.specs.{declared.answers.GivenBack.{GivenBack}, declared.answers.GivenBack.TheVariants.{Returned, NothingOut}}
use Rattle.fb_history.specs.{BenchView.{Origin, opened, replay}, Due.{due_from}}
pub use Rattle.fb_jobs.specs.Reach.{AgreeApartFrom}

abbrev pub refuses_commit : Committed → Bool
refuses_commit (Done commit) = false
refuses_commit NoChange = true
refuses_commit TooManyChanges = true
refuses_commit (SameUnitTwice unit) = true
refuses_commit (StaleBase unit current) = true
refuses_commit (NoSuchUnit unit) = true
refuses_commit TooManyUnits = true

abbrev pub refuses_result : Delivered → Bool
refuses_result Accepted = false
refuses_result NoSuchKey = true
refuses_result NotPending = true
refuses_result (Stale name) = true

abbrev pub refuses_return : GivenBack → Bool
refuses_return Returned = false
refuses_return NothingOut = true

abbrev pub refuses_question : Shown → Bool
refuses_question Unknown = true
refuses_question Waits = false
refuses_question (Finds finding) = false

-- whether a reply refuses its call. That there is nothing to do is no refusal
abbrev pub is_refusal : Reply → Bool
is_refusal (OfCommit answer) = refuses_commit answer
is_refusal (OfTake job) = false
is_refusal (OfDeliver answer) = refuses_result answer
is_refusal (OfGiveBack answer) = refuses_return answer
is_refusal (OfAsk shown) = refuses_question shown

-- What is known of a key after some calls: nothing if the present texts don't have it; that it is pending while no current
-- result has come since the last commit that made or reached it; otherwise the value of the present texts, from scratch.
abbrev pub entry_from : {rules : Rules} → StateBy rules → List Call → Key → Shown
entry_from {rules} state calls key =
    let texts = (replay state calls).units in
    if not (rules.has_key texts key) then Unknown else (if due_from state calls key then Waits else Finds (rules.scratch texts key))

abbrev pub entry_after : Origin → List Call → Key → Shown
entry_after origin = entry_from (opened origin)

-- after any calls, what is known of each key is what the calls and the present texts determine
abbrev pub EntriesFollow : Origin → Type 0
EntriesFollow origin = (calls : List Call) (key : Key) → shown (replay (opened origin) calls) key ≡ entry_after origin calls key

-- a call that is refused in this state changes nothing
abbrev pub RefusalsStay : {rules : Rules} → StateBy rules → Type 0
RefusalsStay state = (call : Call) → is_refusal (reply state call) ≡ true → after state call ≡ state

-- the changed names reach the same keys in both
abbrev pub ReachAlike : List (List ℕ) → Texts → Texts → Type 0
ReachAlike changed texts others = (key : Key) → reaches changed texts key ≡ reaches changed others key

-- the changed names reach the same keys in any two texts that differ only under these names
abbrev pub ReachAnywhere : List (List ℕ) → Type 0
ReachAnywhere changed = (texts others : Texts) → AgreeApartFrom changed texts others → ReachAlike changed texts others
