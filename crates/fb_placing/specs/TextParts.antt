-- Texts in parts.
use Rattle.std.specs.{Prelude.{ℕ, List}, Borrow.{Bor}, List.{flat_map}}

-- the text that the parts make
abbrev pub joined : List (Bor (List ℕ)) → List ℕ
joined parts = flat_map (λ (p : Bor (List ℕ)). p.now) parts
