-- The request that a line is.
use Rattle.std.specs.{Prelude.{ℕ, [], ◌∷◌, ◌&&◌, Bool, if◌then◌else◌, List, None, Option, Some, bytes_eq, codes, nat_le, option_and_then, option_map}, Str.{is_utf8}}
use Rattle.fb_history.specs.Limits.{Bounds}
use Rattle.fb_jobs.specs.{declared.keys.key.Kind.{Kind}, declared.keys.key.Kind.TheVariants.{Deploy, Faults, Net}}
use Rattle.serde_json.specs.{Data.{Data, Items, item, no_items}, Read.{read}, Find.{as_array, as_number, as_str, as_u64, get}}

-- a change of a commit, before its name is read
pub data Change : Type 0 where
  puts : (unit : List ℕ) → (base : ℕ) → (text : List ℕ) → Change
  removes : (unit : List ℕ) → (base : ℕ) → Change

-- what is read, before its name is read
pub data Reading : Type 0 where
  status_read : Reading
  units_read : (after : Option (List ℕ)) → Reading
  text_read : (unit : List ℕ) → Reading
  entry_read : Kind → (unit : List ℕ) → Reading
  events_read : (after wait : ℕ) → Reading

-- a request, before its names are read
pub data Request : Type 0 where
  commit : (changes : List Change) → Request
  ask : Kind → List ℕ → Request
  work : ℕ → Request
  take : Request
  deliver : ℕ → Request
  give_back : Kind → List ℕ → Request
  checkpoint : (limits : Bounds) → Request
  read_request : (reading : Reading) → Request

-- ---- members

abbrev pub member_text : List ℕ → Data → Option (List ℕ)
member_text name d = option_and_then as_str (get name d)

abbrev pub number_at : List ℕ → Data → Option ℕ
number_at name d = option_and_then as_u64 (option_and_then as_number (get name d))

abbrev pub kind_called : List ℕ → Option Kind
kind_called text =
    if bytes_eq text (codes "faults") then Some Faults
    else (if bytes_eq text (codes "net") then Some Net
    else (if bytes_eq text (codes "deploy") then Some Deploy else None))

abbrev pub kind_in : Data → Option Kind
kind_in d = option_and_then kind_called (member_text (codes "kind") d)

-- ---- the changes of a commit

abbrev pub put_in : Data → Option Change
put_in d =
    option_and_then (λ unit. option_and_then (λ base. option_map (puts unit base) (member_text (codes "text") d)) (number_at (codes "base") d))
    (member_text (codes "put") d)

abbrev pub remove_in : Data → Option Change
remove_in d = option_and_then (λ unit. option_map (removes unit) (number_at (codes "base") d)) (member_text (codes "remove") d)

-- by what is under `put` and under `remove`: only one of them may be there
abbrev pub change_by : Option Data → Option Data → Data → Option Change
change_by None None d = None
change_by None (Some removed) d = remove_in d
change_by (Some put) None d = put_in d
change_by (Some put) (Some removed) d = None

abbrev pub change_in : Data → Option Change
change_in d = change_by (get (codes "put") d) (get (codes "remove") d) d

-- each item is a change
abbrev pub changes_of : Items → Option (List Change)
changes_of no_items = Some []
changes_of (item d ds) = option_and_then (λ change. option_map (λ changes. change ∷ changes) (changes_of ds)) (change_in d)

abbrev pub commit_in : Data → Option Request
commit_in d = option_map commit (option_and_then changes_of (option_and_then as_array (get (codes "changes") d)))

-- what these make of the kind and the unit
abbrev pub with_key : {A : Type 0} → (Kind → List ℕ → A) → Data → Option A
with_key make d = option_and_then (λ kind. option_map (make kind) (member_text (codes "unit") d)) (kind_in d)

-- 1 to 1,000 turns
abbrev pub work_of : ℕ → Option Request
work_of turns = if nat_le 1 turns && nat_le turns 1000 then Some (work turns) else None

-- units and recorded calls within the most that a workbench may have
abbrev pub limits_of : ℕ → ℕ → Option Bounds
limits_of units history =
    if (nat_le 1 units && nat_le units 16384) && (nat_le 1 history && nat_le history 10000000) then Some (record { units = units; history = history }) else None

abbrev pub checkpoint_in : Data → Option Request
checkpoint_in d =
    option_and_then (λ units. option_and_then (λ history. option_map checkpoint (limits_of units history)) (number_at (codes "history") d)) (number_at (codes "units") d)

-- ---- reads

abbrev pub units_after : Option Data → Option Reading
units_after None = Some (units_read None)
units_after (Some after) = option_map (λ name. units_read (Some name)) (as_str after)

abbrev pub units_in : Data → Option Reading
units_in d = units_after (get (codes "after") d)

-- a wait of at most 30,000 milliseconds
abbrev pub watch_of : ℕ → ℕ → Option Reading
watch_of after wait = if nat_le wait 30000 then Some (events_read after wait) else None

abbrev pub watch_in : Data → Option Reading
watch_in d = option_and_then (λ after. option_and_then (watch_of after) (number_at (codes "wait") d)) (number_at (codes "after") d)

abbrev pub reading_by : List ℕ → Data → Option Reading
reading_by op d =
    if bytes_eq op (codes "status") then Some status_read
    else (if bytes_eq op (codes "units") then units_in d
    else (if bytes_eq op (codes "text") then option_map text_read (member_text (codes "unit") d)
    else (if bytes_eq op (codes "peek") then with_key entry_read d
    else (if bytes_eq op (codes "watch") then watch_in d else None))))

-- ---- all requests; reads only if the desk answers them

abbrev pub small_request_by : (has_reads : Bool) → List ℕ → Data → Option Request
small_request_by has_reads op d =
    if bytes_eq op (codes "ask") then with_key ask d
    else (if bytes_eq op (codes "work") then option_and_then work_of (number_at (codes "turns") d)
    else (if bytes_eq op (codes "take") then Some take
    else (if bytes_eq op (codes "deliver") then option_map deliver (number_at (codes "job") d)
    else (if bytes_eq op (codes "give_back") then with_key give_back d
    else (if bytes_eq op (codes "checkpoint") then checkpoint_in d
    else (if has_reads then option_map read_request (reading_by op d) else None))))))

unfoldable pub request_in : (has_reads : Bool) → Data → Option Request
request_in has_reads d =
    option_and_then (λ op. if bytes_eq op (codes "commit") then commit_in d else small_request_by has_reads op d) (member_text (codes "op") d)

-- a line that is not UTF-8, no JSON or no request has none
unfoldable pub request_of : (has_reads : Bool) → List ℕ → Option Request
request_of has_reads line = if is_utf8 line then option_and_then (request_in has_reads) (read line) else None
