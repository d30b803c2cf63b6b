-- The next of the tokens that are pulled, and what reading one token gives.
use Rattle.std.proofs.Common.{◌≡◌, ◌<◌, ◌≢◌, inl, inr, suc, true, false, List, [], ◌∷◌, length, drop, All, Ok, Err, refl, ◌∙◌, arith}
use Rattle.std.proofs.lemmas.Bool.Decides.{nat_tests}
use Rattle.fb_grammar.specs.{declared.kind.Kind.{Kind}, declared.kind.Kind.TheVariants.{End, NeverClosed}, declared.lexeme.Lexeme.{Lexeme}}
use Rattle.fb_grammar.specs.{Kind.{code_of, is_among, name_kinds, same_kind}, Reading.{is_next, read_one}, Upcoming.{front}}
use Rattle.fb_grammar.proofs.Forms.{among_same, or_cases}

-- the first of the tokens
pub next_among : (kinds : List Kind) (ts : List Lexeme) → is_next kinds ts ≡ true → is_among kinds (front ts).kind ≡ true
next_among kinds [] h = cc h
next_among kinds (t ∷ ts) h = h

pub one_taken : (kinds : List Kind) (ts : List Lexeme) → 0 < length ts → is_among kinds (front ts).kind ≡ true → read_one kinds ts ≡ Ok (front ts, drop 1 ts)
one_taken kinds [] some h = absurd (omega arith)
one_taken kinds (t ∷ ts) some h = rw h refl

pub one_refused : (kinds : List Kind) (ts : List Lexeme) → is_among kinds (front ts).kind ≡ false → read_one kinds ts ≡ Err ts
one_refused kinds [] h = refl
one_refused kinds (t ∷ ts) h = rw h refl

-- a kind alone
pub is_kind : (a b : Kind) → code_of b ≡ code_of a → is_among (a ∷ []) b ≡ true
is_kind a b e = grind (arith, nat_tests)

pub is_other : (a b : Kind) → code_of b ≢ code_of a → is_among (a ∷ []) b ≡ false
is_other a b e = grind (arith, nat_tests)

-- what is among kinds of names
pub is_name : (kinds : List Kind) (k : Kind) → All (λ kind. is_among name_kinds kind ≡ true) kinds → is_among kinds k ≡ true → is_among name_kinds k ≡ true
is_name [] k names h = cc h
is_name (x ∷ kinds) k names h = elim (or_cases (same_kind x k) (is_among kinds k) h) [
  | inl p ↦ among_same x name_kinds k p ∙ names 0 x (omega arith)
  | inr p ↦ is_name kinds k (λ n d h. names (suc n) d (omega arith)) p
]

-- a name is a token
pub name_token : (k : Kind) → is_among name_kinds k ≡ true → is_among (End ∷ NeverClosed ∷ []) k ≡ false
name_token k h = grind (arith, nat_tests)
