-- What contracts see of what a workbench knows of its keys.
use Rattle.std.specs.{Prelude.{◌≡◌, Bool, false, true, List, Option, Some, None}, BTreeMap.{is_at}, List.{list_any}, Map.{lookup}, Ordering.{is_gt}}
use Rattle.fb_jobs.specs.{declared.keys.key.Key.{Key}, KeyOrder.{key_cmp}}
use Rattle.fb_entries.specs.declared.entry.Entry.{Entry}

-- the keys with their entries, and the keys that are pending and not handed out, both in order
pub record Keyed : Type 0 where
  pub entries : List (Key × Entry)
  pub ready : List Key

-- the entry of a key among these
abbrev pub entry_in : List (Key × Entry) → Key → Option Entry
entry_in entries key = lookup (is_at (key_cmp key)) entries

-- the entry of a key
abbrev pub entry_at : Keyed → Key → Option Entry
entry_at it key = entry_in it.entries key

-- whether the key can be taken
abbrev pub can_take : Keyed → Key → Bool
can_take it key = list_any (is_at (key_cmp key)) it.ready

-- the least key that can be taken, or that there is none
abbrev pub IsFirstReady : Keyed → Option Key → Type 0
IsFirstReady it None = (key : Key) → can_take it key ≡ false
IsFirstReady it (Some first) = (can_take it first ≡ true) × ((key : Key) → can_take it key ≡ true → is_gt (key_cmp first key) ≡ false)
