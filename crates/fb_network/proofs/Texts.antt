-- The order of texts that are in parts.
use Rattle.std.proofs.Common.{ℕ, ◌≡◌, ◌<◌, ◌≤◌, List, [], ◌∷◌, ◌++◌, length, take, drop, refl, sym, ap, ◌∙◌, arith}
use Rattle.std.specs.{declared.cmp.Ordering.{Ordering}, Ordering.{nat_cmp, ordering_then, ordering_reverse}, Cmp.Lexicographic.{nat_list_cmp_total}}
use Rattle.fb_tree.specs.Text.Order.{name_cmp}

ordering_then-assoc : (a b c : Ordering) → ordering_then a (ordering_then b c) ≡ ordering_then (ordering_then a b) c
ordering_then-assoc a b c = grind arith

-- first parts of one length are compared first
pub by_parts : (xs ys us vs : List ℕ) → length xs ≡ length ys → name_cmp (xs ++ us) (ys ++ vs) ≡ ordering_then (name_cmp xs ys) (name_cmp us vs)
by_parts [] [] us vs e = refl
by_parts (x ∷ xs) (y ∷ ys) us vs e = ap (ordering_then (nat_cmp x y)) (by_parts xs ys us vs (omega (arith, e))) ∙ ordering_then-assoc (nat_cmp x y) (name_cmp xs ys) (name_cmp us vs)
by_parts xs ys us vs e = absurd (omega (arith, e))

-- a shorter text decides before the second part
pub by_start : (xs ys vs : List ℕ) → length xs < length ys → name_cmp xs (ys ++ vs) ≡ name_cmp xs ys
by_start xs [] vs lt = absurd (omega (arith, lt))
by_start [] (y ∷ ys) vs lt = refl
by_start (x ∷ xs) (y ∷ ys) vs lt = ap (ordering_then (nat_cmp x y)) (by_start xs ys vs (omega (arith, lt)))

-- a text that is cut where the start of the other ends
pub by_cut : (xs ys vs : List ℕ) (n : ℕ) → n ≡ length ys → length ys ≤ length xs → name_cmp xs (ys ++ vs) ≡ ordering_then (name_cmp (take n xs) ys) (name_cmp (drop n xs) vs)
by_cut xs [] vs n e le = rw e refl
by_cut [] (y ∷ ys) vs n e le = absurd (omega (arith, le))
by_cut (x ∷ xs) (y ∷ ys) vs n e le =
    rw e (ap (ordering_then (nat_cmp x y)) (by_cut xs ys vs (length ys) refl (omega (arith, le))) ∙ ordering_then-assoc (nat_cmp x y) (name_cmp (take (length ys) xs) ys) (name_cmp (drop (length ys) xs) vs))

-- the other text is cut where this one's start ends
pub by_other_cut : (xs us ys vs : List ℕ) (n : ℕ) → n ≡ length xs → length xs ≤ length ys → name_cmp (xs ++ us) (ys ++ vs) ≡ ordering_then (name_cmp xs (take n ys)) (name_cmp us (drop n ys ++ vs))
by_other_cut [] us ys vs n e le = rw e refl
by_other_cut (x ∷ xs) us [] vs n e le = absurd (omega (arith, le))
by_other_cut (x ∷ xs) us (y ∷ ys) vs n e le =
    rw e (ap (ordering_then (nat_cmp x y)) (by_other_cut xs us ys vs (length xs) refl (omega (arith, le))) ∙ ordering_then-assoc (nat_cmp x y) (name_cmp xs (take (length xs) ys)) (name_cmp us (drop (length xs) ys ++ vs)))

pub turned : (xs ys : List ℕ) → ordering_reverse (name_cmp ys xs) ≡ name_cmp xs ys
turned xs ys = sym (nat_list_cmp_total.antisymm xs ys)
