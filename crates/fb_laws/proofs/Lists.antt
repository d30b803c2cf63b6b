-- Lists that are joined from others or split at an item, what is found in a list, and what a list gives.
use Rattle.fb_laws.proofs.Common.{arith, zero, suc, ◌≡◌, ℕ, Bool, true, cond, List, [], ◌∷◌, ◌++◌, Some, ◌↔◌, inl, inr, sym, subst, Contains, slice_get, Contains-append_left, Contains-append_right, Contains-append_cases, contains_here, contains_nothing, contains_single, Option, None, filter_map, cons_option, contains_cases, contains_later, ◌⊎◌, ap, ◌∙◌, false, length, take, refl, true≢false, append_assoc, find, flat_map, flat_map-append, passes_in_find, before_first, position_or_len, option_or}
pub use Rattle.fb_deploy.proofs.Flatten.NameLemmas.{origin_in_filter_map as given}
use Rattle.std.proofs.{lemmas.List.{get_or-take, length-take}, lemmas.List.Folds.{find-append, find_at}, lemmas.List.Sums.{fails_before_first}}

-- what is so of the members of each of two lists
pub of_either : {X : Type 0} {P : X → Type 0} (a b : List X) → ((y : X) → Contains a y → P y) → ((y : X) → Contains b y → P y) → (y : X) → Contains (a ++ b) y → P y
of_either {P = P} a b left right y c = elim (Contains-append_cases a b y c) [ inl h ↦ left y h | inr h ↦ right y h ]

-- and of the first one, and of those after it
pub of_first : {X : Type 0} {P : X → Type 0} (x : X) (xs : List X) → P x → ((y : X) → Contains xs y → P y) → (y : X) → Contains (x ∷ xs) y → P y
of_first {P = P} x xs first later y c = elim (contains_cases x xs y c) [ inl e ↦ subst P e first | inr h ↦ later y h ]

-- a list, and others after it
abbrev pub joined : {X : Type 0} → List X → List (List X) → List X
joined first [] = first
joined first (next ∷ others) = joined (first ++ next) others

in_first : {X : Type 0} (first : List X) (others : List (List X)) (y : X) → Contains first y → Contains (joined first others) y
in_first first [] y c = c
in_first first (next ∷ others) y c = in_first (first ++ next) others y (Contains-append_left first next y c)

-- what the list at this place has
pub in_joined : {X : Type 0} (first : List X) (others : List (List X)) (place : ℕ) (list : List X) (y : X) → slice_get (first ∷ others) place ≡ Some list → Contains list y → Contains (joined first others) y
in_joined {X = X} first others zero list y e c = let is : first ≡ list = cc in in_first first others y (subst (λ (l : List X). Contains l y) (sym is) c)
in_joined first [] (suc k) list y e c = absurd (let fails : ⊥ = cc in fails)
in_joined {X = X} first (next ∷ others) (suc zero) list y e c = let is : next ≡ list = cc in in_first (first ++ next) others y (Contains-append_right first next y (subst (λ (l : List X). Contains l y) (sym is) c))
in_joined first (next ∷ others) (suc (suc k)) list y e c = in_joined (first ++ next) others (suc k) list y e c

-- one item, where a test passes
pub in_where : {X : Type 0} (b : Bool) (x y : X) → Contains (cond b (x ∷ []) []) y → (b ≡ true) × (x ≡ y)
in_where b x y c = grind (arith, contains_single, contains_nothing)

pub where_passes : {X : Type 0} (b : Bool) (x : X) → b ≡ true → Contains (cond b (x ∷ []) []) x
where_passes b x e = grind (arith, contains_here)

-- an option, by whether there is something
pub by_option : {A P : Type 0} (o : Option A) → (o ≡ None → P) → ((a : A) → o ≡ Some a → P) → P
by_option o none some = grind arith

pub gives_member : {X Y : Type 0} (h : X → Option Y) (xs : List X) (x : X) (y : Y) → Contains xs x → h x ≡ Some y → Contains (filter_map h xs) y
gives_member h [] x y c e = absurd (contains_nothing x c)
gives_member {X = X} {Y = Y} h (z ∷ zs) x y c e =
    elim (contains_cases z zs x c) [
      | inl same ↦ subst (λ (o : Option Y). Contains (cons_option o (filter_map h zs)) y) (sym (ap h same ∙ e)) (contains_here y (filter_map h zs))
      | inr d ↦ (elim (h z) as (λ o. Contains (cons_option o (filter_map h zs)) y) [ None ↦ gives_member h zs x y d e | Some w ↦ contains_later w (filter_map h zs) y (gives_member h zs x y d e) ])
    ]

-- a law in both directions
pub iff : {A B : Type 0} → (A → B) → (B → A) → A ↔ B
iff to from = (to, from)

-- a list with no members is empty
pub no_members : {A : Type 0} (xs : List A) → ((x : A) → Contains xs x → ⊥) → xs ≡ []
no_members [] h = refl
no_members (x ∷ xs) h = absurd (h x (contains_here x xs))

-- the empty list is not split
pub nothing_split : {A : Type 0} (before : List A) (x : A) (after : List A) → [] ≡ before ++ x ∷ after → ⊥
nothing_split [] x after e = let fails : ⊥ = cc in fails
nothing_split (y ∷ before) x after e = let fails : ⊥ = cc in fails

-- the item at a place splits the list
pub split_at : {A : Type 0} (xs : List A) (j : ℕ) (x : A) → slice_get xs j ≡ Some x → (after : List A) × (xs ≡ take j xs ++ x ∷ after)
split_at [] j x e = absurd (let fails : ⊥ = cc in fails)
split_at (y ∷ xs) zero x e = let same : y ≡ x = cc in (xs, ap (λ z. z ∷ xs) same)
split_at (y ∷ xs) (suc j) x e = let o = split_at xs j x e in (o.0, ap (λ l. y ∷ l) o.1)

pub at_split : {A : Type 0} (before : List A) (x : A) (after : List A) → slice_get (before ++ x ∷ after) (length before) ≡ Some x
at_split [] x after = refl
at_split (y ∷ before) x after = at_split before x after

-- two lists together are split in the first or in the second
pub split_append : {A : Type 0} (xs ys before after : List A) (y : A) → xs ++ ys ≡ before ++ y ∷ after → ((rest : List A) × (xs ≡ before ++ y ∷ rest)) ⊎ ((inside : List A) × (before ≡ xs ++ inside) × (ys ≡ inside ++ y ∷ after))
split_append [] ys before after y e = inr (before, refl, e)
split_append (x ∷ xs) ys [] after y e = let same : x ≡ y = cc in inl (xs, ap (λ w. w ∷ xs) same)
split_append {A = A} (x ∷ xs) ys (z ∷ before) after y e = grind (arith, split_append xs ys before after y)

-- a list of lists that is split is split in one of them
pub record SplitThrough {X Y : Type 0} (f : X → List Y) (xs : List X) (before : List Y) (y : Y) : Type 0 where
  pub earlier : List X
  pub origin : X
  pub later : List X
  pub split : xs ≡ earlier ++ origin ∷ later
  pub inside : List Y
  pub rest : List Y
  pub parts : f origin ≡ inside ++ y ∷ rest
  pub passed : before ≡ flat_map f earlier ++ inside

pub split_through : {X Y : Type 0} (f : X → List Y) (xs : List X) (before after : List Y) (y : Y) → flat_map f xs ≡ before ++ y ∷ after → SplitThrough f xs before y
split_through f [] before after y e = absurd (nothing_split before y after e)
split_through f (x ∷ xs) before after y e =
    elim (split_append (f x) (flat_map f xs) before after y e) [
      | inl o ↦ record { earlier = []; origin = x; later = xs; split = refl; inside = before; rest = o.0; parts = o.1; passed = refl }
      | inr p ↦
          let o = split_through f xs p.0 after y p.2 in
          let split : x ∷ xs ≡ (x ∷ o.earlier) ++ o.origin ∷ o.later = ap (λ l. x ∷ l) o.split in
          let passed : before ≡ flat_map f (x ∷ o.earlier) ++ o.inside = p.1 ∙ ap (λ l. f x ++ l) o.passed ∙ sym (append_assoc (f x) (flat_map f o.earlier) o.inside) in
          search
    ]

-- and the other way
pub through_split : {X Y : Type 0} (f : X → List Y) (earlier later : List X) (x : X) (inside rest : List Y) (y : Y) → f x ≡ inside ++ y ∷ rest → flat_map f (earlier ++ x ∷ later) ≡ (flat_map f earlier ++ inside) ++ y ∷ (rest ++ flat_map f later)
through_split f earlier later x inside rest y parts = grind (arith, flat_map-append, append_assoc)

-- what a search finds is the first item that passes

module _ {X : Type 0} (p : X → Bool) (xs : List X) where
  pub before_fails : (x : X) → Contains (before_first p xs) x → p x ≡ false
  before_fails x c = grind (arith, length-take, get_or-take, fails_before_first)

  pub found_split : (x : X) → find p xs ≡ Some x → (after : List X) × (xs ≡ before_first p xs ++ x ∷ after)
  found_split x e = split_at xs (position_or_len p xs) x (sym (find_at p xs) ∙ e)

  pub none_found : ((x : X) → Contains xs x → p x ≡ false) → find p xs ≡ None
  none_found fails = by_option (find p xs) (λ none. none) (λ x e. let k = passes_in_find p xs x e in absurd (true≢false (sym k.passes ∙ fails x k.among)))

pub found_none : {X : Type 0} (p : X → Bool) (xs : List X) → find p xs ≡ None → (x : X) → Contains xs x → p x ≡ false
found_none p [] e x c = absurd (contains_nothing x c)
found_none p (z ∷ xs) e x c = grind (arith, contains_cases, find, found_none p xs)

pub first_found : {X : Type 0} (p : X → Bool) (before : List X) (x : X) (after : List X) → ((z : X) → Contains before z → p z ≡ false) → p x ≡ true → find p (before ++ x ∷ after) ≡ Some x
first_found p before x after fails here = find-append p before (x ∷ after) ∙ (λ i. option_or (none_found p before fails i) (cond (here i) (Some x) (find p after)))
