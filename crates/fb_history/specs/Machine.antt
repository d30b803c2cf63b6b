-- The workbench as a machine, with any rules of keys: its states, its calls, and what each call answers and leaves.
use Rattle.std.specs.Prelude.{ℕ, ◌+◌, Bool, ◌&&◌, ◌||◌, not, List, [], ◌∷◌, map, filter, length, Option, Some, None, if◌then◌else◌, nat_lt, ◌==◌}
use Rattle.std.specs.Ordering.{is_lt}
use Rattle.fb_jobs.specs.{Library.Texts.{Texts, Held, held, Edit, Puts, Removes, unit_of, all_edited}, declared.keys.key.Key.{Key}, Keys.{Finding}}
use Rattle.fb_jobs.specs.{KeyOrder.{key_cmp, same_key}, Reads.{PlainJob, reads_under, stale}, Reach.{keys_by, reaches_by}, Rules.{Rules, unit_rules}}
pub use Rattle.fb_jobs.specs.Reach.{keys_of, reaches, comes_again, first_repeated}
use Rattle.fb_history.specs.declared.answers.Committed.{Committed}
use Rattle.fb_history.specs.declared.answers.Committed.TheVariants.{Done, NoChange, TooManyChanges, SameUnitTwice, StaleBase, NoSuchUnit, TooManyUnits}
use Rattle.fb_history.specs.{declared.answers.Delivered.{Delivered}, declared.answers.Delivered.TheVariants.{Accepted, NoSuchKey, NotPending, Stale}}
use Rattle.fb_history.specs.{declared.answers.GivenBack.{GivenBack}, declared.answers.GivenBack.TheVariants.{Returned, NothingOut}}

-- a state with these rules: the texts, the number of good commits, which keys are pending, and which are handed out. It holds no value
pub record StateBy (rules : Rules) : Type 0 where
  pub most_units : ℕ
  pub units : Texts
  pub commits : ℕ
  pub pending : Key → Bool
  pub out : Key → Bool

-- a state of a workbench
abbrev pub State : Type 0
State = StateBy unit_rules

-- a call of the machine. Of a job or a result only its key and its reads matter
pub data Call : Type 0 where
  ToCommit : (edits : List Edit) → Call
  ToTake : Call
  ToDeliver : (job : PlainJob) → Call
  ToGiveBack : (key : Key) → Call
  ToAsk : (key : Key) → Call

-- what `ask` shows of a key
pub data Shown : Type 0 where
  Finds : (finding : Finding) → Shown
  Waits : Shown
  Unknown : Shown

-- what the machine replies
pub data Reply : Type 0 where
  OfCommit : (answer : Committed) → Reply
  OfTake : (job : Option PlainJob) → Reply
  OfDeliver : (answer : Delivered) → Reply
  OfGiveBack : (answer : GivenBack) → Reply
  OfAsk : (shown : Shown) → Reply

-- ---- keys

abbrev pub lesser : Key → Option Key → Option Key
lesser key None = Some key
lesser key (Some other) = Some (if is_lt (key_cmp other key) then other else key)

-- the least of some keys
abbrev pub least : List Key → Option Key
least [] = None
least (key ∷ keys) = lesser key (least keys)

-- ---- commit

abbrev pub misfit_at : Option Held → Edit → Option Committed
misfit_at None (Puts unit base text) = if base == 0 then None else Some (StaleBase unit 0)
misfit_at (Some it) (Puts unit base text) = if base == it.revision then None else Some (StaleBase unit it.revision)
misfit_at None (Removes unit base) = Some (NoSuchUnit unit)
misfit_at (Some it) (Removes unit base) = if base == it.revision then None else Some (StaleBase unit it.revision)

-- what is wrong with a change on its own
abbrev pub misfit : Texts → Edit → Option Committed
misfit texts edit = misfit_at (held texts (unit_of edit)) edit

abbrev pub first_misfit : Texts → List Edit → Option Committed
first_misfit texts [] = None
first_misfit texts (edit ∷ edits) = elim (misfit texts edit) as (λ _. Option Committed) [ None ↦ first_misfit texts edits | Some answer ↦ Some answer ]

abbrev pub or_else : Option Committed → Committed → Committed
or_else None answer = answer
or_else (Some refusal) answer = refusal

abbrev pub or_some : Option Committed → Option Committed → Option Committed
or_some None other = other
or_some (Some refusal) other = Some refusal

abbrev pub repeated_refusal : Option (List ℕ) → Option Committed
repeated_refusal None = None
repeated_refusal (Some unit) = Some (SameUnitTwice unit)

-- the most changes of a commit
abbrev pub most_changes : ℕ
most_changes = 16

-- what is wrong with the changes one by one or together, the first in the order of the refusals
abbrev pub refusal : Texts → List Edit → Option Committed
refusal texts edits =
    if length edits == 0 then Some NoChange
    else (if nat_lt most_changes (length edits) then Some TooManyChanges
    else or_some (repeated_refusal (first_repeated (map unit_of edits))) (first_misfit texts edits))

-- ---- the other calls

abbrev pub added : (Key → Bool) → Key → Key → Bool
added out key other = same_key key other || out other

abbrev pub removed : (Key → Bool) → Key → Key → Bool
removed marks key other = not (same_key key other) && marks other

abbrev pub unless_stale : Option (List ℕ) → Delivered
unless_stale None = Accepted
unless_stale (Some name) = Stale name

-- ---- one step

module _ {rules : Rules} where
  abbrev pub is_ready : StateBy rules → Key → Bool
  is_ready state key = state.pending key && not (state.out key)

  -- the least key that is pending and not handed out
  unfoldable pub next : StateBy rules → Option Key
  next state = least (filter (is_ready state) (keys_by rules state.units))

  abbrev pub count_answer : StateBy rules → List Edit → Committed
  count_answer state edits =
      if nat_lt state.most_units (length (all_edited (state.commits + 1) edits state.units)) then TooManyUnits else Done (state.commits + 1)

  -- the first refusal, or the number of the commit
  abbrev pub commit_answer : StateBy rules → List Edit → Committed
  commit_answer state edits = or_else (refusal state.units edits) (count_answer state edits)

  abbrev pub after_done : ℕ → List Edit → StateBy rules → StateBy rules
  after_done commit edits state =
      let units = all_edited commit edits state.units in
      let changed = map unit_of edits in
      record {
        most_units = state.most_units;
        units = units;
        commits = commit;
        pending = λ key. rules.has_key units key && (state.pending key || not (rules.has_key state.units key) || reaches_by rules changed units key);
        out = λ key. rules.has_key units key && rules.has_key state.units key && state.out key && not (reaches_by rules changed units key);
      }

  abbrev pub after_commit : Committed → List Edit → StateBy rules → StateBy rules
  after_commit (Done commit) edits state = after_done commit edits state
  after_commit _ edits state = state

  abbrev pub taken_job : StateBy rules → Key → PlainJob
  taken_job state key = record { key = key; reads = reads_under state.units (rules.needs state.units key) }

  abbrev pub after_take : Option Key → StateBy rules → StateBy rules
  after_take None state = state
  after_take (Some key) state = record state { out = added state.out key }

  abbrev pub taken : Option Key → StateBy rules → Option PlainJob
  taken None state = None
  taken (Some key) state = Some (taken_job state key)

  abbrev pub deliver_answer : StateBy rules → PlainJob → Delivered
  deliver_answer state job =
      if not (rules.has_key state.units job.key) then NoSuchKey
      else (if not (state.pending job.key) then NotPending
      else unless_stale (stale state.units job.reads))

  abbrev pub after_deliver : Delivered → Key → StateBy rules → StateBy rules
  after_deliver Accepted key state = record state { pending = removed state.pending key; out = removed state.out key }
  after_deliver _ key state = state

  abbrev pub give_back_answer : StateBy rules → Key → GivenBack
  give_back_answer state key = if state.out key then Returned else NothingOut

  abbrev pub after_give_back : GivenBack → Key → StateBy rules → StateBy rules
  after_give_back Returned key state = record state { out = removed state.out key }
  after_give_back NothingOut key state = state

  abbrev pub shown : StateBy rules → Key → Shown
  shown state key =
      if not (rules.has_key state.units key) then Unknown
      else (if state.pending key then Waits else Finds (rules.scratch state.units key))

  -- what the machine answers to a call
  unfoldable pub reply : StateBy rules → Call → Reply
  reply state (ToCommit edits) = OfCommit (commit_answer state edits)
  reply state ToTake = OfTake (taken (next state) state)
  reply state (ToDeliver job) = OfDeliver (deliver_answer state job)
  reply state (ToGiveBack key) = OfGiveBack (give_back_answer state key)
  reply state (ToAsk key) = OfAsk (shown state key)

  -- the state that a call leaves
  unfoldable pub after : StateBy rules → Call → StateBy rules
  after state (ToCommit edits) = after_commit (commit_answer state edits) edits state
  after state ToTake = after_take (next state) state
  after state (ToDeliver job) = after_deliver (deliver_answer state job) job.key state
  after state (ToGiveBack key) = after_give_back (give_back_answer state key) key state
  after state (ToAsk key) = state
