-- What is read of a workbench without a record, and what it shows.
use Rattle.std.specs.{Prelude.{ℕ, ◌+◌, ◌-◌, ◌^◌, Bool, false, ◌||◌, ◌++◌, List, [], Option, Some, None, count_by, drop, filter, length, map, max, nat_lt, slice_index_or, string_bytes, take, if◌then◌else◌}, List.{filter_map}, Fmt.{digits, format_spec, padded_integral}, Ordering.{is_lt}}
use Rattle.fb_text.specs.Order.{name_cmp}
use Rattle.fb_jobs.specs.{Library.Texts.{Texts, Held, held, names_of}}
use Rattle.fb_history.specs.{Machine.{Shown, keys_of, shown}, Events.{Event, CommitMade, ValueCame, event_of}, BenchView.{Record, BenchView, last_number, state_of}, Records.{shown_in}}
use Rattle.fb_history.specs.declared.event.Event as code
use Rattle.fb_history.specs.declared.event.Event.TheVariants as variant
use Rattle.fb_history.specs.{declared.reading.Identity.{Identity}, declared.reading.Reader.{Reader}, declared.reading.Counts.{Counts}, declared.reading.Reading.{Reading}, declared.reading.Reading.TheVariants.{Status, Units, Text, Entry, Events}}
use Rattle.fb_history.specs.declared.reading.Revision.{Revision}
use Rattle.fb_history.specs.declared.reading.Showing as made
use Rattle.fb_history.specs.declared.reading.Showing.TheVariants as kept

-- what a read shows. `at` is the number of the last call, of events that of the last one that was looked at
pub data Showing : Type 0 where
  StatusShown : (counts : Counts) (workbench : List ℕ) → Showing
  UnitsShown : (at : ℕ) (units : List Revision) → Showing
  TextShown : (at base : ℕ) (text : List ℕ) → Showing
  NoUnit : (unit : List ℕ) → Showing
  EntryShown : (shown : Shown) → Showing
  EventsShown : (at : ℕ) (events : List Event) → Showing
  EventsMissed : (at : ℕ) → Showing

-- the most units
abbrev pub most_units : ℕ
most_units = 1000

-- the most calls that are looked at for events
abbrev pub most_calls : ℕ
most_calls = 200

-- a number of 64 bits in 16 hexadecimal digits
abbrev pub hexadecimal : ℕ → List ℕ
hexadecimal number = padded_integral (format_spec 32 0 4 16 (2 ^ 64 - 1)) false [] (digits 16 false number)

abbrev pub identity_text : Identity → List ℕ
identity_text it = hexadecimal it.high ++ hexadecimal it.low

abbrev pub counts_of : Reader → BenchView → Counts
counts_of reader bench =
    let state = state_of bench in
    record {
      session = reader.session;
      calls = last_number bench;
      commits = state.commits;
      keys = length (keys_of state.units);
      pending = count_by state.pending (keys_of state.units);
      units = length state.units;
    }

abbrev pub is_behind : List ℕ → List ℕ × Held → Bool
is_behind name entry = is_lt (name_cmp name entry.0)

-- the same of the unit at a place
abbrev pub behind_at : List ℕ → Texts → ℕ → Bool
behind_at name texts place = is_lt (name_cmp name (slice_index_or (names_of texts) place []))

-- the units after a name, or all of them
abbrev pub units_behind : Option (List ℕ) → Texts → Texts
units_behind None texts = texts
units_behind (Some name) texts = filter (is_behind name) texts

abbrev pub revision_of_entry : List ℕ × Held → Revision
revision_of_entry entry = record { unit = entry.0; number = entry.1.revision }

abbrev pub revisions_behind : Option (List ℕ) → Texts → List Revision
revisions_behind after texts = map revision_of_entry (take most_units (units_behind after texts))

abbrev pub text_shown : ℕ → List ℕ → Option Held → Showing
text_shown at unit None = NoUnit unit
text_shown at unit (Some it) = TextShown at it.revision it.text

-- the calls after this number that are looked at
abbrev pub looked_at : BenchView → ℕ → List Record
looked_at bench after = take most_calls (drop (after - bench.origin.before) bench.log.records)

-- The events among them. Events before the history began are missed, and so is a number that no call has yet
abbrev pub events_after : BenchView → ℕ → Showing
events_after bench after =
    if nat_lt after bench.origin.last_event || nat_lt (last_number bench) after then EventsMissed (last_number bench)
    else EventsShown (max after bench.origin.before + length (looked_at bench after)) (filter_map event_of (looked_at bench after))

-- what a session reads of a workbench
abbrev pub reading_of : Reader → BenchView → Reading → Showing
reading_of reader bench Status = StatusShown (counts_of reader bench) (identity_text reader.workbench)
reading_of reader bench (Units after) = UnitsShown (last_number bench) (revisions_behind after (state_of bench).units)
reading_of reader bench (Text unit) = text_shown (last_number bench) unit (held (state_of bench).units unit)
reading_of reader bench (Entry key) = EntryShown (shown (state_of bench) key)
reading_of reader bench (Events after) = events_after bench after

-- ---- the same of the code

abbrev pub event_in : code.Event → Event
event_in (variant.Commit number caller put removed) = CommitMade number caller put.items removed.items
event_in (variant.Value key) = ValueCame key

abbrev pub showing_in : made.Showing → Showing
showing_in (kept.Status counts workbench) = StatusShown counts (string_bytes workbench)
showing_in (kept.Units at units) = UnitsShown at units.items
showing_in (kept.Text at base text) = TextShown at base (string_bytes text.value)
showing_in (kept.NoSuchUnit unit) = NoUnit unit
showing_in (kept.Entry asked) = EntryShown (shown_in asked)
showing_in (kept.Events at events) = EventsShown at (map event_in events.items)
showing_in (kept.Missed at) = EventsMissed at
