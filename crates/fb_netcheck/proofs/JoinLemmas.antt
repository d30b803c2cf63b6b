-- Faults that are found one after another.
use Rattle.std.proofs.{Common.{◌≡◌, ℕ, ◌+◌, ◌<◌, List, [], ◌∷◌, ◌++◌, get_or, length, take, sym, ap, ◌∙◌, append_assoc}, lemmas.List.{flat_map_more, take_more}}
use Rattle.std.specs.List.{flat_map}

module _ {A : Type 0} where
  pub five_joined : (old a b c d e : List A) → ((((old ++ a) ++ b) ++ c) ++ d) ++ e ≡ old ++ ((((a ++ b) ++ c) ++ d) ++ e)
  five_joined old a b c d e = simp append_assoc

  -- what one more item of a list gives
  pub flat_map_next : {B : Type 0} (f : B → List A) (old : List A) (xs : List B) (n : ℕ) (x : B) → n < length xs → x ≡ get_or xs n x → (old ++ flat_map f (take n xs)) ++ f x ≡ old ++ flat_map f (take (n + 1) xs)
  flat_map_next f old xs n x within here =
      flat_map_more f old (take n xs) x ∙ ap (λ l. old ++ flat_map f l) (sym (take_more xs n x within ∙ ap (λ y. take n xs ++ y ∷ []) (sym here)))
