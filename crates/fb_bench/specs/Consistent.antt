-- What a workbench keeps beside its history agrees with where the history has led.
use Rattle.std.specs.Prelude.{◌≡◌, ℕ, ◌≤◌, true, false, Option, Some, None}
use Rattle.fb_entries.specs.{Keyed.{Keyed, can_take, entry_at}, Library.Texts.{Texts}, Jobs.declared.keys.key.Key.{Key}}
use Rattle.fb_entries.specs.{Jobs.Keys.{Finding, has_key, scratch}, Found.{found_in}, Marking.{is_unkept, value_in}, declared.entry.Entry.{Entry}, Index.Indexed.{Indexed}, Indexed.{IsIndexOf}}
use Rattle.fb_history.specs.{Machine.{State, is_ready}, BenchView.{BenchView, IsOrigin, last_number, state_of, IsReplay}}

-- a kept value is the key's value from scratch
abbrev pub IsScratch : Texts → Key → Option Finding → Type 0
IsScratch texts key None = Unit {0}
IsScratch texts key (Some finding) = finding ≡ scratch texts key

-- an entry for each key of the texts, and for no other, with its marks, its value and what was found for it
abbrev pub EntryFits : State → Key → Option Entry → Type 0
EntryFits state key None = (has_key state.units key ≡ false) × (state.pending key ≡ false) × (state.out key ≡ false)
EntryFits state key (Some it) =
    (has_key state.units key ≡ true) × (state.pending key ≡ is_unkept it) × (state.out key ≡ it.out) × IsScratch state.units key (value_in it) × IsScratch state.units key (found_in (Some it))

-- what is kept agrees with a state
pub record Agrees (units : Texts) (commits : ℕ) (entries : Keyed) (state : State) : Type 0 where
  pub units_are : units ≡ state.units
  pub commits_are : commits ≡ state.commits
  pub each : (key : Key) → EntryFits state key (entry_at entries key)
  pub ready_are : (key : Key) → can_take entries key ≡ is_ready state key

-- What is kept agrees with the state, and each stored answer of the history is the machine's. The index is that of the texts.
pub record IsConsistent (units : Texts) (commits : ℕ) (entries : Keyed) (index : Indexed) (bench : BenchView) : Type 0 where
  pub begins : IsOrigin bench.origin
  pub agrees : Agrees units commits entries (state_of bench)
  pub replayed : IsReplay bench
  pub indexed : IsIndexOf units index
  pub few : commits ≤ last_number bench
