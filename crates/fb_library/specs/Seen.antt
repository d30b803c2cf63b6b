-- How a walk along the mentions continues: which names it has seen, and which of them are still pending.
use Rattle.std.specs.{Prelude.{◌≡◌, ℕ, ◌+◌, ◌≤◌, Bool, true, false, ◌||◌, List, [], ◌∷◌, length, if◌then◌else◌}, List.{list_any}, Ordering.{eq_by_cmp}}
use Rattle.fb_parse.specs.Text.Order.{name_cmp}

-- whether the name is among these
abbrev pub has_name : List (List ℕ) → List ℕ → Bool
has_name names q = list_any (eq_by_cmp name_cmp q) names

-- how many of these names were not seen
abbrev pub unseen : List (List ℕ) → List (List ℕ) → ℕ
unseen seen [] = 0
unseen seen (x ∷ xs) = (if has_name seen x then 0 else 1) + unseen seen xs

-- each of the names is seen, and those that were new are pending
pub record Opens (names seen pending seen' pending' : List (List ℕ)) : Type 0 where
  pub marks : (q : List ℕ) → has_name seen' q ≡ (has_name seen q || has_name names q)
  pub keeps : (q : List ℕ) → has_name pending q ≡ true → has_name pending' q ≡ true
  pub opened : (q : List ℕ) → has_name seen' q ≡ true → has_name seen q ≡ false → has_name pending' q ≡ true
  pub only : (q : List ℕ) → has_name pending' q ≡ true → (has_name pending q || has_name names q) ≡ true
  pub falls : (all : List (List ℕ)) → ((q : List ℕ) → has_name names q ≡ true → has_name all q ≡ true) → unseen seen' all + length pending' ≤ unseen seen all + length pending
