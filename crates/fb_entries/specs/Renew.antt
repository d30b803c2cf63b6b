-- What a commit does to the entries.
use Rattle.std.specs.Prelude.{◌≡◌, ℕ, Bool, ◌&&◌, ◌||◌, not, List, None, is_none, if◌then◌else◌}
use Rattle.fb_jobs.specs.{declared.keys.key.Key.{Key}, Keys.{has_key}, Kinds.{all_keys}, Reach.{reaches}}
use Rattle.fb_index.specs.Library.Texts.{Texts}
use Rattle.fb_entries.specs.{Keyed.{Keyed, can_take, entry_at}, Marking.{is_of, waiting_if, KeepsOtherEntries, HasEntries, LosesEntries, LosesKeys}}
use Rattle.fb_entries.specs.declared.renewal.Renewal.{Renewal}

-- whether the key is of a changed unit
abbrev pub is_own : List (List ℕ) → Key → Bool
is_own changed key = is_of key (all_keys changed)

-- whether the new texts have a key of a changed unit that has no entry
abbrev pub is_fresh : Texts → List (List ℕ) → Keyed → Key → Bool
is_fresh texts changed it key = (is_own changed key && has_key texts key) && is_none (entry_at it key)

-- whether the new texts have the key and one of the changed names decides its value
abbrev pub is_renewed : Texts → List (List ℕ) → Key → Bool
is_renewed texts changed key = has_key texts key && reaches changed texts key

-- what is found before anything is changed
pub record IsRenewal (texts : Texts) (changed : List (List ℕ)) (old : Keyed) (it : Renewal) : Type 0 where
  pub fresh_are : (key : Key) → is_of key it.fresh.items ≡ is_fresh texts changed old key
  pub gone_are : (key : Key) → is_of key it.gone.items ≡ (is_own changed key && not (has_key texts key))
  pub renewed_are : (key : Key) → is_of key it.renewed.items ≡ is_renewed texts changed key
  pub unready_are : (key : Key) → is_of key it.unready.items ≡ (is_renewed texts changed key && not (can_take old key))

-- there is an entry for each new key, the unready keys have joined the set, and nothing else changes
pub record HasRoom (it : Renewal) (old new : Keyed) : Type 0 where
  pub others : KeepsOtherEntries it.fresh.items (entry_at old) (entry_at new)
  pub there : HasEntries it.fresh.items (entry_at new)
  pub readies : (key : Key) → can_take new key ≡ (is_of key it.unready.items || can_take old key)

-- the new keys have no entries, and the unready keys have left the set
pub record IsTakenBack (it : Renewal) (old new : Keyed) : Type 0 where
  pub entries : LosesEntries it.fresh.items (entry_at old) (entry_at new)
  pub readies : LosesKeys it.unready.items (can_take old) (can_take new)

-- the gone keys no longer have an entry and can't be taken, and the renewed ones wait for a result
pub record IsCarriedOut (it : Renewal) (old new : Keyed) : Type 0 where
  pub entries : (key : Key) → entry_at new key ≡ waiting_if (is_of key it.renewed.items) (if is_of key it.gone.items then None else entry_at old key)
  pub readies : LosesKeys it.gone.items (can_take old) (can_take new)
