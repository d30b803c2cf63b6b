-- The keys of texts, and what changed names reach.
use Rattle.std.specs.{Prelude.{◌≡◌, ℕ, Bool, false, List, filter, take, find, Option}, List.{list_any, enumerate_from}, Option.{option_map}}
use Rattle.fb_deploy.specs.Library.Texts.{Texts, text_at, names_of}
use Rattle.fb_jobs.specs.{declared.keys.key.Key.{Key}, Kinds.{all_keys}, Reads.{is_among}, Rules.{Rules, unit_rules}}

-- the keys of the texts, in order
abbrev pub keys_by : Rules → Texts → List Key
keys_by rules texts = filter (rules.has_key texts) (all_keys (names_of texts))

abbrev pub keys_of : Texts → List Key
keys_of = keys_by unit_rules

-- whether a key needs one of the changed names
abbrev pub reaches_by : Rules → List (List ℕ) → Texts → Key → Bool
reaches_by rules changed texts key = list_any (λ name. is_among name (rules.needs texts key)) changed

abbrev pub reaches : List (List ℕ) → Texts → Key → Bool
reaches = reaches_by unit_rules

-- the texts are the same, except under the changed names
abbrev pub AgreeApartFrom : List (List ℕ) → Texts → Texts → Type 0
AgreeApartFrom changed texts others = (name : List ℕ) → is_among name changed ≡ false → text_at texts name ≡ text_at others name

-- whether an earlier change has the unit
abbrev pub comes_again : List (List ℕ) → ℕ × List ℕ → Bool
comes_again units placed = is_among placed.1 (take placed.0 units)

-- the unit of the first change whose unit came before
abbrev pub first_repeated : List (List ℕ) → Option (List ℕ)
first_repeated units = option_map (λ placed. placed.1) (find (comes_again units) (enumerate_from 0 units))
