use Rattle.std.proofs.Common.{◌≡◌, ◌∙◌, ◌≤◌, ℕ, Bool, List, Option, ap, arith, inl, inr, length, refl, lt-ltb, le-ltb}
use Rattle.std.specs.{List.{position, position_or_len}, Option.{unwrap_or}}
use Rattle.std.proofs.lemmas.{Bool.{cases_lt}, List.Sums.{prefix_len-le-length}}
use Rattle.fb_secret.specs.File.{is_line_end}
use Rattle.fb_secret.proofs.file.line_length.Goals as goal

ends_within : (p : ℕ → Bool) (xs : List ℕ) → position_or_len p xs ≤ length xs
ends_within p xs = prefix_len-le-length _ xs

by_position : (p : ℕ → Bool) (xs : List ℕ) → unwrap_or (position p xs) (length xs) ≡ position_or_len p xs
by_position p xs = elim (cases_lt (position_or_len p xs) (length xs)) [
  | inl inside ↦ rw (lt-ltb (position_or_len p xs) (length xs) inside) refl
  | inr past ↦ rw (le-ltb (position_or_len p xs) (length xs) past) (let within = ends_within p xs in omega arith)
]

ends_at : (p : ℕ → Bool) (xs : List ℕ) (end : Option ℕ) (n : ℕ) → end ≡ position p xs → n ≡ unwrap_or end (length xs) → n ≡ position_or_len p xs
ends_at p xs end n found is = is ∙ ap (λ o. unwrap_or o (length xs)) found ∙ by_position p xs

pub returns-clause-length : goal.returns-clause-length
returns-clause-length c = ends_at is_line_end c.args.bytes.now _ _ c.line_end.ensures c.unwrap_or.ensures

pub returns-clause-within : goal.returns-clause-within
returns-clause-within c =
    let at : c.unwrap_or.result ≡ position_or_len is_line_end c.args.bytes.now = ends_at is_line_end c.args.bytes.now _ _ c.line_end.ensures c.unwrap_or.ensures in
    let within = ends_within is_line_end c.args.bytes.now in
    omega arith
