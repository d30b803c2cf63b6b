-- What is nearest is had by the longest prefix that has something.
use Rattle.std.proofs.Common.{ℕ, zero, suc, ◌≡◌, ◌<◌, ◌≤◌, ◌==◌, Bool, true, false, List, ◌∷◌, ◌++◌, Option, Some, None, inl, inr, refl, sym, ◌∙◌, ap, subst, take, drop, get_or, length, arith, eq-eqb, length-append, length-take-le, take-append-drop}
use Rattle.std.proofs.{lemmas.Bool.Decides.{Decides-eqb}, Math.Seq.{drop-cons, take-append_seam, get_or-append_seam}}
use Rattle.std.specs.Option.{option_or}
use native.Mathlib.Decide.{dec_lt}
use Rattle.fb_network.specs.Prefixes.{IsPrefix, IsNearest, nearest}
use Rattle.fb_network.proofs.PrefixLemmas.{nearest_below, nearest_is, below_no_point, below_nothing, below_here}

module _ {X : Type 0} (at : List ℕ → Option X) (path : List ℕ) where
  -- no prefix that ends at a point from one place up to another has anything
  abbrev Nothing : ℕ → ℕ → Type 0
  Nothing low high = (j : ℕ) → low ≤ j → j < high → get_or path j 0 ≡ 46 → at (take j path) ≡ None

  -- of the prefixes that end at a point before a place, the longest that has something has this
  abbrev IsBelow : ℕ → Option X → Type 0
  IsBelow k None = Nothing 0 k
  IsBelow k (Some x) = (j : ℕ) × (j < k) × (get_or path j 0 ≡ 46) × (at (take j path) ≡ Some x) × Nothing (suc j) k

  nothing_more : (low k : ℕ) → Nothing low k → (get_or path k 0 ≡ 46 → at (take k path) ≡ None) → Nothing low (suc k)
  nothing_more low k none here j le lt point =
      elim (dec_lt j k) [
        | Prim.yes below ↦ none j le below point
        | Prim.no above ↦ let same : j ≡ k = omega arith in rw same (here (subst (λ (i : ℕ). get_or path i 0 ≡ 46) same point))
      ]

  passed : (k : ℕ) (o : Option X) → IsBelow k o → (get_or path k 0 ≡ 46 → at (take k path) ≡ None) → IsBelow (suc k) o
  passed k None none here = nothing_more 0 k none here
  passed k (Some x) (j, lt, point, has, none) here = (j, omega arith, point, has, nothing_more (suc j) k none here)

  by_value : (k : ℕ) → IsBelow k (nearest_below at path k) → (b : Bool) → (get_or path k 0 == 46) ≡ b → (o : Option X) → at (take k path) ≡ o → IsBelow (suc k) (nearest_below at path (suc k))
  by_value k below true p (Some x) e = rw (below_here at path k x p e) (k, omega arith, (Decides-eqb (get_or path k 0) 46).0 p, e, λ j le lt. absurd (omega arith))
  by_value k below true p None e = rw (below_nothing at path k e) (passed k (nearest_below at path k) below (λ point. e))
  by_value k below false p o e = rw (below_no_point at path k p) (passed k (nearest_below at path k) below (λ point. absurd (let h = eq-eqb (get_or path k 0) 46 point in cc)))

  is_below : (k : ℕ) → IsBelow k (nearest_below at path k)
  is_below zero = λ j le lt. absurd (omega arith)
  is_below (suc k) = by_value k (is_below k) (get_or path k 0 == 46) refl (at (take k path)) refl

  -- a prefix before a point
  prefix_at : (j : ℕ) → j < length path → get_or path j 0 ≡ 46 → IsPrefix (take j path) path
  prefix_at j lt point =
      inr (drop (suc j) path, sym (take-append-drop j path) ∙ ap (λ (l : List ℕ). take j path ++ l) (drop-cons path j 0 lt ∙ ap (λ (b : ℕ). b ∷ drop (suc j) path) point))

  -- where a prefix ends
  prefix_nothing : (low : ℕ) (prefix rest : List ℕ) → path ≡ prefix ++ 46 ∷ rest → low ≤ length prefix → Nothing low (length path) → at prefix ≡ None
  prefix_nothing low prefix rest e le none =
      let inside : length prefix < length path = omega (arith, ap length e, length-append prefix (46 ∷ rest)) in
      let whole : take (length prefix) path ≡ prefix = ap (take (length prefix)) e ∙ take-append_seam prefix (46 ∷ rest) in
      ap at (sym whole) ∙ none (length prefix) le inside (ap (λ (l : List ℕ). get_or l (length prefix) 0) e ∙ get_or-append_seam prefix 46 rest 0)

  prefix_length : (prefix : List ℕ) → IsPrefix prefix path → length prefix ≤ length path
  prefix_length prefix (inl e) = omega (arith, ap length e)
  prefix_length prefix (inr (rest, e)) = omega (arith, ap length e, length-append prefix (46 ∷ rest))

  prefix_beyond : at path ≡ None → (low : ℕ) → Nothing low (length path) → (other : List ℕ) → IsPrefix other path → low ≤ length other → at other ≡ None
  prefix_beyond nothing low none other (inl e) le = ap at (sym e) ∙ nothing
  prefix_beyond nothing low none other (inr (rest, e)) le = prefix_nothing low other rest e le none

  by_below : at path ≡ None → (o : Option X) → IsBelow (length path) o → IsNearest at path o
  by_below nothing None none = λ prefix is. prefix_beyond nothing 0 none prefix is (omega arith)
  by_below nothing (Some x) (j, lt, point, has, none) =
      (take j path, prefix_at j lt point, has, λ other prefix longer. prefix_beyond nothing (suc j) none other prefix (omega (arith, longer, length-take-le j path (omega arith))))

  by_path : (o : Option X) → at path ≡ o → IsNearest at path (option_or o (nearest_below at path (length path)))
  by_path (Some x) e = (path, inl refl, e, λ other prefix longer. absurd (let short = prefix_length other prefix in omega (arith, short, longer)))
  by_path None e = by_below e (nearest_below at path (length path)) (is_below (length path))

  pub is_nearest : IsNearest at path (nearest at path)
  is_nearest = rw (nearest_is at path) (by_path (at path) refl)
