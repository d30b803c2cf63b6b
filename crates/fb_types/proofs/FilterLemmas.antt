-- The names that a test keeps.
use Rattle.std.proofs.{Common.{◌≡◌, ℕ, Bool, true, false, cond, List, [], ◌∷◌, ◌++◌, ap, ◌∙◌, filter, arith}, lemmas.Bool.{false≢true}}
use Rattle.std.proofs.{lemmas.List.{append-nil}, lemmas.List.Elements.{filter-append}}
use Rattle.fb_iface.proofs.Library.SeenLemmas.{same_is}
use Rattle.fb_iface.specs.Library.Seen.{has_name}

module _ (p : List ℕ → Bool) where
  pub in_filter : (xs : List (List ℕ)) (q : List ℕ) → p q ≡ true → has_name xs q ≡ true → has_name (filter p xs) q ≡ true
  in_filter [] q t h = h
  in_filter (x ∷ xs) q t h = grind (arith, in_filter xs q t, same_is q x)

  pub of_filter : (xs : List (List ℕ)) (q : List ℕ) → has_name (filter p xs) q ≡ true → (has_name xs q ≡ true) × (p q ≡ true)
  of_filter [] q h = absurd (false≢true h)
  of_filter (x ∷ xs) q h = grind (arith, of_filter xs q, same_is q x)

  pub filter_more : (xs : List (List ℕ)) (x : List ℕ) → p x ≡ true → filter p (xs ++ x ∷ []) ≡ filter p xs ++ x ∷ []
  filter_more xs x t = filter-append p xs (x ∷ []) ∙ ap (λ b. filter p xs ++ cond b (x ∷ []) []) t

  pub filter_less : (xs : List (List ℕ)) (x : List ℕ) → p x ≡ false → filter p (xs ++ x ∷ []) ≡ filter p xs
  filter_less xs x f = filter-append p xs (x ∷ []) ∙ ap (λ b. filter p xs ++ cond b (x ∷ []) []) f ∙ append-nil (filter p xs)
