-- Texts that stand for nothing yet, and texts that stand for something.
use Rattle.std.proofs.{Common.{ℕ, ◌≡◌, Bool, true, false, cond, List, Option, Some, None, is_some, refl, sym, ◌∙◌, ap}, lemmas.Slice.Eq.{bytes_eq-Decides}}
use Rattle.std.specs.{Map.{update}, Option.{option_or}, Str.{bytes_eq}}

-- texts that pass the test are equal
pub same_text : (a b : List ℕ) → bytes_eq a b ≡ true → a ≡ b
same_text a b e = (bytes_eq-Decides a b).0 e

pub nothing_there : {X : Type 0} (o : Option X) → is_some o ≡ false → o ≡ None
nothing_there None e = refl
nothing_there (Some x) e = absurd (cc)

-- the text stood for nothing
pub added_first : {X : Type 0} (old new : List ℕ → Option X) (text : List ℕ) (x : X) → is_some (old text) ≡ false → ((q : List ℕ) → new q ≡ update bytes_eq old text (Some x) q) → (q : List ℕ) → new q ≡ option_or (old q) (cond (bytes_eq text q) (Some x) None)
added_first {X = X} old new text x none is q = is q ∙ by_test (bytes_eq text q) refl
  where
    by_test : (b : Bool) → bytes_eq text q ≡ b → cond b (Some x) (old q) ≡ option_or (old q) (cond b (Some x) None)
    by_test true e = sym (ap (λ (o : Option X). option_or o (Some x)) (ap old (sym (same_text text q e)) ∙ nothing_there (old text) none))
    by_test false e = by_old (old q)
      where
        by_old : (o : Option X) → o ≡ option_or o None
        by_old None = refl
        by_old (Some y) = refl
