-- Lists that have all names that block a unit or reach themselves.
use Rattle.std.specs.{Prelude.{◌≡◌, ℕ, Bool, true, false, if◌then◌else◌, List, [], Option, None, Contains}, List.{list_any}, FinMap.{get}}
use Rattle.std.specs.List.Sorted.{IsStrictlySortedBy}
use Rattle.fb_types.specs.{Text.Order.{name_cmp}, Library.Seen.{has_name}, Library.View.{Sources, mentions_at, parts_at}, Library.Rests.{Rests}}
use Rattle.fb_types.specs.Reaches.{IsRecursive, SomePartRestsOnRecursive}
use Rattle.fb_flatten.specs.{Blocking.{IsBlocking, IsPartBelow}, Hints.{is_whole_hint}, Net.{PlainNet}}

-- the names that it mentions; none if its kept net shows that nothing blocks it and none of what it rests on reaches itself
abbrev pub mentions_beyond : (List ℕ → Option PlainNet) → Sources → List ℕ → List (List ℕ)
mentions_beyond hints sources name = if is_whole_hint (hints name) then [] else mentions_at sources name

-- its parts, and none in the same case
abbrev pub parts_beyond : (List ℕ → Option PlainNet) → Sources → List ℕ → List (List ℕ)
parts_beyond hints sources name = if is_whole_hint (hints name) then [] else parts_at sources name

-- the name is such a part of one of these
abbrev pub is_part_beyond : (List ℕ → Option PlainNet) → Sources → List (List ℕ) → List ℕ → Bool
is_part_beyond hints sources names name = list_any (λ holder. has_name (parts_beyond hints sources holder) name) names

-- none of the names rests by parts on a name that reaches itself
abbrev pub AreFinite : Sources → List (List ℕ) → Type 0
AreFinite sources names = SomePartRestsOnRecursive sources names → ⊥

-- names that the unit rests on, in order, each once, among them all that block it or reach themselves, and all that have absent parts
pub record AreSuspects (hints : List ℕ → Option PlainNet) (sources : Sources) (unit : List ℕ) (names : List (List ℕ)) : Type 0 where
  pub sorted : IsStrictlySortedBy name_cmp names
  pub sound : (v : List ℕ) → Contains names v → Rests sources unit v
  pub complete : (v : List ℕ) → Rests sources unit v → IsBlocking sources unit v → Contains names v
  pub recursive : (v : List ℕ) → Rests sources unit v → IsRecursive sources v → Contains names v
  pub holders : (v : List ℕ) → get sources v ≡ None → IsPartBelow sources unit v → is_part_beyond hints sources names v ≡ true
