-- Paths in two parts: their names, and their prefixes.
use Rattle.std.proofs.{Common.{ℕ, suc, ◌<◌, ◌≡◌, ◌≢◌, ◌==◌, Bool, true, false, cond, List, [], ◌∷◌, ◌++◌, Option, Some, None, MatchOption, length, get_or, refl, sym, ◌∙◌, ap, subst, arith}, lemmas.List.{take-append-drop}}
use Rattle.std.proofs.{lemmas.Bool.{ne_eqb}, lemmas.Str.Pattern.{NoCharPasses-char, drop_at_char}}
use Rattle.std.specs.{Prelude.{nat_eq}, Borrow.{Bor}, Str.{NoCharPasses, Pattern.{RFindsChar, SplitsAroundMatch}}, Option.{IfNone, IfSome}}
use Rattle.fb_placing.specs.{Points.{HasNoPoint, IsSplit}, Resolved.{on_first, path_names}}

no_point : (text : List ℕ) → ((i : ℕ) → i < length text → get_or text i 0 ≢ 46) → HasNoPoint text
no_point [] none = tt
no_point (b ∷ bs) none = (ne_eqb b 46 (none 0 (omega arith)), no_point bs (λ i l. none (suc i) (omega (arith, l))))

-- a path at its last point, if it has one
pub split_at_last : (path : List ℕ) (r : Option (Bor (List ℕ) × Bor (List ℕ))) → MatchOption r (RFindsChar 46 path None) (λ x. SplitsAroundMatch (RFindsChar 46) path x.0.now x.1.now) → IfSome r (λ x. IsSplit path x.0.now x.1.now) × IfNone r (HasNoPoint path)
split_at_last path None none = (tt, no_point path (λ i. NoCharPasses-char 46 path i none (omega arith)))
split_at_last path (Some x) at =
    let parts : path ≡ x.0.now ++ 46 ∷ x.1.now = sym (take-append-drop at.0 path) ∙ (λ k. sym at.3 k ++ (drop_at_char 46 path at.0 at.1 at.2.1 (omega arith) ∙ ap (λ (bs : List ℕ). 46 ∷ bs) (sym at.4)) k) in
    ((parts, no_point x.1.now (λ i. NoCharPasses-char 46 x.1.now i (subst (NoCharPasses (λ d. nat_eq d 46)) (sym at.4) at.2.0) (omega arith))), tt)

-- the names of a name are that name
pub one_name : (name : List ℕ) → HasNoPoint name → path_names name ≡ name ∷ []
unfolding path_names
one_name [] none = refl
one_name (b ∷ bs) none = ap (λ (t : Bool). cond t ([] ∷ path_names bs) (on_first b (path_names bs))) none.0 ∙ ap (on_first b) (one_name bs none.1)

-- there is a first name, to which what stands in front is added
first_more : (b : ℕ) (names more : List (List ℕ)) → (names ≡ [] → ⊥) → on_first b (names ++ more) ≡ on_first b names ++ more
first_more b [] more some = absurd (some refl)
first_more b (name ∷ names) more some = refl

some_name : (path : List ℕ) → path_names path ≡ [] → ⊥
unfolding path_names
some_name [] e = let no : ⊥ = cc in no
some_name (b ∷ bs) e = by_test (b == 46) (path_names bs) (some_name bs) e
  where
    by_test : (t : Bool) (names : List (List ℕ)) → (names ≡ [] → ⊥) → cond t ([] ∷ names) (on_first b names) ≡ [] → ⊥
    by_test true names some f = let no : ⊥ = cc in no
    by_test false [] some f = some refl
    by_test false (name ∷ names) some f = let no : ⊥ = cc in no

-- the names of a path in two parts
pub names_parted : (outer name : List ℕ) → HasNoPoint name → path_names (outer ++ 46 ∷ name) ≡ path_names outer ++ name ∷ []
unfolding path_names
names_parted [] name none = ap (λ (names : List (List ℕ)). [] ∷ names) (one_name name none)
names_parted (b ∷ bs) name none = by_test (b == 46) (names_parted bs name none)
  where
    by_test : (t : Bool) → path_names (bs ++ 46 ∷ name) ≡ path_names bs ++ name ∷ [] → cond t ([] ∷ path_names (bs ++ 46 ∷ name)) (on_first b (path_names (bs ++ 46 ∷ name))) ≡ cond t ([] ∷ path_names bs) (on_first b (path_names bs)) ++ name ∷ []
    by_test true more = ap (λ (names : List (List ℕ)). [] ∷ names) more
    by_test false more = ap (on_first b) more ∙ first_more b (path_names bs) (name ∷ []) (some_name bs)
