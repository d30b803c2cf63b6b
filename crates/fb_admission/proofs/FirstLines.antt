-- The first line of bytes.
use Rattle.std.proofs.Common.{◌≡◌, ◌+◌, ℕ, List, Some, None, length, ap, sym, ◌∙◌, subst}
use Rattle.std.specs.Prelude.{take}
use Rattle.std.specs.List.{position}
use Rattle.std.proofs.Math.Seq.{take-append_seam}
use Rattle.fb_secret.specs.Exchange.{IsForeign}
use Rattle.fb_admission.specs.Heads.{IsFirstLine, ProvesNothing, is_feed}

some_is : (n m : ℕ) → Some n ≡ Some m → n ≡ m
some_is n m is = cc

line_is : (bytes line rest : List ℕ) (first : IsFirstLine bytes line rest) → line ≡ take (first.0 + 1) bytes
line_is bytes line rest first =
    sym (take-append_seam line rest) ∙ (ap (λ (l : List ℕ). take (length line) l) (sym first.3) ∙ ap (λ (n : ℕ). take n bytes) first.2)

pub no_line : (secret challenge bytes : List ℕ) → position is_feed bytes ≡ None → ProvesNothing secret challenge bytes
no_line secret challenge bytes none line rest first = absurd (let never : ⊥ = cc in never)

pub foreign_line : (secret challenge bytes line rest : List ℕ) → IsFirstLine bytes line rest → IsForeign secret challenge line → ProvesNothing secret challenge bytes
foreign_line secret challenge bytes line rest first foreign other more is =
    let same : first.0 ≡ is.0 = some_is first.0 is.0 (sym first.1 ∙ is.1) in
    let lines : line ≡ other = line_is bytes line rest first ∙ (ap (λ (n : ℕ). take (n + 1) bytes) same ∙ sym (line_is bytes other more is)) in
    subst (λ (l : List ℕ). IsForeign secret challenge l) lines foreign

pub ruleset foreign = (no_line, foreign_line)
