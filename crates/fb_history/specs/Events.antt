-- Records as events for those who watch.
use Rattle.std.specs.{Prelude.{ℕ, ◌+◌, Bool, true, false, List, [], ◌∷◌, Option, Some, None, is_some, option_map, if◌then◌else◌}, List.{filter_map}}
use Rattle.fb_jobs.specs.{Library.Texts.{Edit, Puts, Removes}, declared.keys.key.Key.{Key}}
use Rattle.fb_history.specs.{Machine.{Call, ToCommit, ToTake, ToDeliver, ToGiveBack, ToAsk, Reply, OfCommit, OfDeliver}, BenchView.{Record, BenchView}}
use Rattle.fb_history.specs.{declared.answers.Committed.TheVariants.{Done}, declared.answers.Delivered.TheVariants.{Accepted}}

-- a good commit: its number, who made it, and the units that it put and removed; or a key whose result was accepted
pub data Event : Type 0 where
  CommitMade : (commit caller : ℕ) (put removed : List (List ℕ)) → Event
  ValueCame : (key : Key) → Event

abbrev pub put_unit : Edit → Option (List ℕ)
put_unit (Puts unit base text) = Some unit
put_unit (Removes unit base) = None

abbrev pub removed_unit : Edit → Option (List ℕ)
removed_unit (Puts unit base text) = None
removed_unit (Removes unit base) = Some unit

-- the number of a good commit
abbrev pub commit_in : Reply → Option ℕ
commit_in (OfCommit (Done commit)) = Some commit
commit_in _ = None

-- whether a result was accepted
abbrev pub accepts : Reply → Bool
accepts (OfDeliver Accepted) = true
accepts _ = false

abbrev pub event_for : ℕ → Call → Reply → Option Event
event_for caller (ToCommit edits) reply = option_map (λ commit. CommitMade commit caller (filter_map put_unit edits) (filter_map removed_unit edits)) (commit_in reply)
event_for caller (ToDeliver job) reply = if accepts reply then Some (ValueCame job.key) else None
event_for caller ToTake reply = None
event_for caller (ToGiveBack key) reply = None
event_for caller (ToAsk key) reply = None

-- the event that a record is, if it is one
abbrev pub event_of : Record → Option Event
event_of it = event_for it.caller it.call it.reply

-- whether a record is an event
abbrev pub is_event : Record → Bool
is_event it = is_some (event_of it)

-- the number of the last event: one of these records, of which the first comes after this many calls, or else this number
abbrev pub last_event_in : ℕ → ℕ → List Record → ℕ
last_event_in last before [] = last
last_event_in last before (it ∷ records) = last_event_in (if is_event it then before + 1 else last) (before + 1) records

-- the same of all calls of a workbench, or 0
abbrev pub last_event_of : BenchView → ℕ
last_event_of bench = last_event_in bench.origin.last_event bench.origin.before bench.log.records
