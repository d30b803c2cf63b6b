-- All names to which some names lead, as a relation and as a list.
use Rattle.std.specs.{Prelude.{◌↔◌, ℕ, zero, suc, List, ◌++◌, length, Contains}, List.{flat_map}, List.Sorted.{IsStrictlySortedBy}}
use Rattle.fb_parse.specs.Text.Order.{name_cmp, names_in_order}

-- u leads to v: v is reached from u by none or more steps
pub data Leads (next : List ℕ → List (List ℕ)) : List ℕ → List ℕ → Type 0 where
  itself : {u : List ℕ} → Leads next u u
  through : {u w v : List ℕ} → Contains (next u) w → Leads next w v → Leads next u v

-- one of the starts leads to v
abbrev pub LedFrom : (List ℕ → List (List ℕ)) → List (List ℕ) → List ℕ → Type 0
LedFrom next starts v = (u : List ℕ) × Contains starts u × Leads next u v

-- the names and what is next to them, in order, each once
abbrev pub opened : (List ℕ → List (List ℕ)) → List (List ℕ) → List (List ℕ)
opened next names = names_in_order (flat_map next names ++ names)

-- opened this number of times
abbrev pub opened_times : ℕ → (List ℕ → List (List ℕ)) → List (List ℕ) → List (List ℕ)
opened_times zero next names = names
opened_times (suc times) next names = opened_times times next (opened next names)

-- what is next to any name is among these
abbrev pub IsWithin : (List ℕ → List (List ℕ)) → List (List ℕ) → Type 0
IsWithin next all = (n q : List ℕ) → Contains (next n) q → Contains all q

-- All names to which the starts lead, in order, each once. What is found in a further step is next to some name, so after as many
-- steps as there are names that can be next nothing more is found.
unfoldable pub led_from : List (List ℕ) → (List ℕ → List (List ℕ)) → List (List ℕ) → List (List ℕ)
led_from all next starts = opened_times (length all) next (names_in_order starts)

-- in order, each once, and just those to which the starts lead
abbrev pub AreLedFrom : (List ℕ → List (List ℕ)) → List (List ℕ) → List (List ℕ) → Type 0
AreLedFrom next starts names = IsStrictlySortedBy name_cmp names × ((v : List ℕ) → Contains names v ↔ LedFrom next starts v)
