-- A history of calls, and what it leads to.
use Rattle.std.specs.Prelude.{◌≡◌, ℕ, ◌+◌, ◌-◌, ◌≤◌, false, List, [], ◌∷◌, ◌++◌, map, ◌==◌, count_by, take, length, slice_get, Option, Some, None, unwrap_or, zero, suc}
use Rattle.std.specs.{BTreeMap.{insert_entry, is_at}, List.Sorted.{IsStrictlySortedBy}, Map.{lookup}, Ordering.{nat_cmp}, List.{list_any}}
use Rattle.fb_text.specs.Order.{name_cmp}
use Rattle.fb_jobs.specs.{Library.Texts.{Texts, names_of}, declared.keys.key.Key.{Key}, Keys.{has_key}, KeyOrder.{same_key}, Rules.{Rules}}
use Rattle.fb_history.specs.Machine.{StateBy, State, Call, Reply, after, reply}

-- one recorded call with its answer. `turn` counts the caller's calls up to this one
pub record Record : Type 0 where
  pub caller : ℕ
  pub turn : ℕ
  pub call : Call
  pub reply : Reply

-- a history with the most calls that it may have
pub record Log : Type 0 where
  pub limit : ℕ
  pub records : List Record

-- ---- pages: a list of callers, each with its number of calls, by rising caller

-- how many calls are on the page of a caller
abbrev pub on_page : List (ℕ × ℕ) → ℕ → ℕ
on_page pages caller = unwrap_or (lookup (is_at (nat_cmp caller)) pages) 0

-- one more call on the page of its caller
abbrev pub page_more : List (ℕ × ℕ) → ℕ → List (ℕ × ℕ)
page_more pages caller = insert_entry nat_cmp pages caller (on_page pages caller + 1)

-- the pages after these records
abbrev pub pages_after : List (ℕ × ℕ) → List Record → List (ℕ × ℕ)
pages_after pages [] = pages
pages_after pages (it ∷ records) = pages_after (page_more pages it.caller) records

-- ---- where a history begins

-- What a history begins from: a state, with its keys that are pending and those that are handed out as lists; how many calls came
-- before it, and how many of each caller; and the number of the last one of them that is an event for those who watch, or 0
pub record Origin : Type 0 where
  pub most_units : ℕ
  pub units : Texts
  pub commits : ℕ
  pub pending : List Key
  pub out : List Key
  pub before : ℕ
  pub pages : List (ℕ × ℕ)
  pub last_event : ℕ

abbrev pub opened : Origin → State
opened origin =
    record {
      most_units = origin.most_units;
      units = origin.units;
      commits = origin.commits;
      pending = λ key. list_any (same_key key) origin.pending;
      out = λ key. list_any (same_key key) origin.out;
    }

-- the texts are by rising names, and only their keys are pending or handed out
pub record IsOrigin (origin : Origin) : Type 0 where
  pub rise : IsStrictlySortedBy name_cmp (names_of origin.units)
  pub waiting : (key : Key) → has_key origin.units key ≡ false → (opened origin).pending key ≡ false
  pub handed : (key : Key) → has_key origin.units key ≡ false → (opened origin).out key ≡ false

-- no texts, and no calls before
abbrev pub empty_origin : ℕ → Origin
empty_origin most_units = record { most_units = most_units; units = []; commits = 0; pending = []; out = []; before = 0; pages = []; last_event = 0 }

-- a workbench: all else follows from its origin and its history
pub record BenchView : Type 0 where
  pub origin : Origin
  pub log : Log

-- the state after the calls
unfoldable pub replay : {rules : Rules} → StateBy rules → List Call → StateBy rules
replay state [] = state
replay state (call ∷ calls) = replay (after state call) calls

-- the replies to the calls
unfoldable pub replies : {rules : Rules} → StateBy rules → List Call → List Reply
replies state [] = []
replies state (call ∷ calls) = reply state call ∷ replies (after state call) calls

abbrev pub calls_of : Log → List Call
calls_of log = map (λ it. it.call) log.records

abbrev pub replies_of : Log → List Reply
replies_of log = map (λ it. it.reply) log.records

abbrev pub turns_of : ℕ → List Record → ℕ
turns_of caller records = count_by (λ it. it.caller == caller) records

-- the record at a place, counted from 1
abbrev pub record_at : List Record → ℕ → Option Record
record_at records zero = None
record_at records (suc place) = slice_get records place

-- the number of the last call
abbrev pub last_number : BenchView → ℕ
last_number bench = bench.origin.before + length bench.log.records

-- the record of this number; calls from before the history begins have none
abbrev pub record_numbered : BenchView → ℕ → Option Record
record_numbered bench number = record_at bench.log.records (number - bench.origin.before)

-- how many calls of the caller were recorded, those before included
abbrev pub all_turns : BenchView → ℕ → ℕ
all_turns bench caller = on_page bench.origin.pages caller + turns_of caller bench.log.records

-- each turn counts its caller's calls up to there
abbrev pub AreTurns : BenchView → Type 0
AreTurns bench =
    (place : ℕ) (it : Record) → record_at bench.log.records place ≡ Some it
    → it.turn ≡ on_page bench.origin.pages it.caller + turns_of it.caller (take place bench.log.records)

-- one more call and its answer, after those of the workbench
abbrev pub record_after : BenchView → ℕ → Call → Reply → Record
record_after bench caller call answer = record { caller = caller; turn = all_turns bench caller + 1; call = call; reply = answer }

-- the workbench with one more call and its answer
abbrev pub logged : BenchView → ℕ → Call → Reply → BenchView
logged bench caller call answer =
    record {
      origin = bench.origin;
      log = record { limit = bench.log.limit; records = bench.log.records ++ record_after bench caller call answer ∷ [] };
    }

-- an empty workbench with these limits
abbrev pub new_bench : ℕ → ℕ → BenchView
new_bench most_units limit = record { origin = empty_origin most_units; log = record { limit = limit; records = [] } }

-- the history has the number of calls that it may have
abbrev pub IsFull : Log → Type 0
IsFull log = log.limit ≤ length log.records

-- the state to which the history has led
abbrev pub state_of : BenchView → State
state_of bench = replay (opened bench.origin) (calls_of bench.log)

-- what the machine answers to a call in that state
abbrev pub reply_at : BenchView → Call → Reply
reply_at bench call = reply (state_of bench) call

-- the workbench with one more call, and the answer that the machine gives to it
abbrev pub recorded : BenchView → ℕ → Call → BenchView
recorded bench caller call = logged bench caller call (reply_at bench call)

-- the record that a call adds to the workbench
abbrev pub record_of : BenchView → ℕ → Call → Record
record_of bench caller call = record_after bench caller call (reply_at bench call)

-- each stored answer is the machine's at its place
abbrev pub IsReplay : BenchView → Type 0
IsReplay bench = replies (opened bench.origin) (calls_of bench.log) ≡ replies_of bench.log
