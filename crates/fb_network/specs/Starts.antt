-- Starts of prefixes, which are parts of one text.
use Rattle.std.specs.{Prelude.{ℕ, ◌-◌, ◌≤◌, List, drop, take}, Str.{IsCharBoundary}}
use Rattle.fb_network.specs.{PlainPrefix.{PlainPrefix}, declared.paths.prefixes.Prefix.{Prefix}}

abbrev pub start_in : List ℕ → Prefix → List ℕ
start_in starts prefix = take (prefix.to - prefix.from) (drop prefix.from starts)

abbrev pub prefix_in : List ℕ → Prefix → PlainPrefix
prefix_in starts prefix = record { start = start_in starts prefix; ends = prefix.ends.value.items }

-- the start is a part of the text, between characters
pub record IsIn (starts : List ℕ) (prefix : Prefix) : Type 0 where
  pub rises : prefix.from ≤ prefix.to
  pub from : IsCharBoundary starts prefix.from
  pub to : IsCharBoundary starts prefix.to
