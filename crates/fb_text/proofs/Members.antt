-- What is a member of a list that is built from others.
use Rattle.std.proofs.Common.{zero, suc, ◌≡◌, ℕ, ◌<◌, Bool, true, false, cond, List, [], ◌∷◌, Option, Some, None, option_map, ◌⊎◌, inl, inr, ⊎_elim, refl, sym, ◌∙◌, ap, subst, true≢false, arith}
use Rattle.std.proofs.lemmas.{List.{length-map, get_or-map}, List.Elements.{Contains-append_left, Contains-append_right, Contains-append_cases}}
use Rattle.std.proofs.lemmas.Option.{same_Some, slice_get-map}
use Rattle.std.specs.{Prelude.{Contains, map, filter, flat_map, find}, List.{slice_get}, Option.{option_map_or}}
use Rattle.fb_text.proofs.Tests.{by_bool}

pub contains_nothing : {X : Type 0} (y : X) → Contains [] y → ⊥
contains_nothing y c = let h : c.0 < 0 = c.1 in omega arith

pub contains_here : {X : Type 0} (x : X) (xs : List X) → Contains (x ∷ xs) x
contains_here x xs = (0, omega arith, refl)

pub contains_later : {X : Type 0} (x : X) (xs : List X) (y : X) → Contains xs y → Contains (x ∷ xs) y
contains_later x xs y c = Contains-append_right (x ∷ []) xs y c

pub contains_single : {X : Type 0} (x y : X) → Contains (x ∷ []) y → x ≡ y
contains_single x y (zero, lt, e) = e
contains_single x y (suc k, lt, e) = absurd (omega arith)

pub contains_cases : {X : Type 0} (x : X) (xs : List X) (y : X) → Contains (x ∷ xs) y → (x ≡ y) ⊎ Contains xs y
contains_cases x xs y c = ⊎_elim (λ d. inl (contains_single x y d)) (λ d. inr d) (Contains-append_cases (x ∷ []) xs y c)

-- an element of the first list that gives the member
pub record ComesFrom {X Y : Type 0} (f : X → Y) (xs : List X) (y : Y) : Type 0 where
  pub origin : X
  pub among : Contains xs origin
  pub gives : f origin ≡ y

pub contains_map : {X Y : Type 0} (f : X → Y) (xs : List X) (x : X) → Contains xs x → Contains (map f xs) (f x)
contains_map f xs x c = (c.0, omega (arith, c.1, length-map xs f), get_or-map f xs c.0 x (f x) c.1 ∙ ap f c.2)

pub origin_in_map : {X Y : Type 0} (f : X → Y) (xs : List X) (y : Y) → Contains (map f xs) y → ComesFrom f xs y
origin_in_map f [] y c = absurd (contains_nothing y c)
origin_in_map f (z ∷ xs) y c =
    ⊎_elim (λ (e : f z ≡ y). record { origin = z; among = contains_here z xs; gives = e })
    (λ d. let o = origin_in_map f xs y d in record { origin = o.origin; among = contains_later z xs o.origin o.among; gives = o.gives })
    (contains_cases (f z) (map f xs) y c)

-- an element of the first list whose list has the member
pub record ComesThrough {X Y : Type 0} (f : X → List Y) (xs : List X) (y : Y) : Type 0 where
  pub origin : X
  pub among : Contains xs origin
  pub has : Contains (f origin) y

pub contains_flat_map : {X Y : Type 0} (f : X → List Y) (xs : List X) (x : X) (y : Y) → Contains xs x → Contains (f x) y → Contains (flat_map f xs) y
contains_flat_map f [] x y c d = absurd (contains_nothing x c)
contains_flat_map f (z ∷ xs) x y c d =
    ⊎_elim (λ (e : z ≡ x). Contains-append_left (f z) (flat_map f xs) y (rw e d))
    (λ h. Contains-append_right (f z) (flat_map f xs) y (contains_flat_map f xs x y h d))
    (contains_cases z xs x c)

pub origin_in_flat_map : {X Y : Type 0} (f : X → List Y) (xs : List X) (y : Y) → Contains (flat_map f xs) y → ComesThrough f xs y
origin_in_flat_map f [] y c = absurd (contains_nothing y c)
origin_in_flat_map f (z ∷ xs) y c =
    ⊎_elim (λ h. record { origin = z; among = contains_here z xs; has = h })
    (λ h. let o = origin_in_flat_map f xs y h in record { origin = o.origin; among = contains_later z xs o.origin o.among; has = o.has })
    (Contains-append_cases (f z) (flat_map f xs) y c)

-- the element passes, and stands in the list
pub record Passes {X : Type 0} (p : X → Bool) (xs : List X) (x : X) : Type 0 where
  pub among : Contains xs x
  pub passes : p x ≡ true

pub contains_filter : {X : Type 0} (p : X → Bool) (xs : List X) (x : X) → Contains xs x → p x ≡ true → Contains (filter p xs) x
contains_filter p [] x c h = c
contains_filter p (z ∷ xs) x c h =
    ⊎_elim (λ (e : z ≡ x). rw (e, h) (contains_here x (filter p xs)))
    (λ d. by_bool (p z) (λ t. rw t (contains_later z (filter p xs) x (contains_filter p xs x d h))) (λ f. rw f (contains_filter p xs x d h)))
    (contains_cases z xs x c)

passes_here : {X : Type 0} (p : X → Bool) (z x : X) (xs : List X) → z ≡ x → p z ≡ true → Passes p (z ∷ xs) x
passes_here p z x xs e t = rw (← e) (record { among = contains_here z xs; passes = t })

passes_later : {X : Type 0} (p : X → Bool) (z x : X) (xs : List X) → Passes p xs x → Passes p (z ∷ xs) x
passes_later p z x xs o = record { among = contains_later z xs x o.among; passes = o.passes }

pub passes_in_filter : {X : Type 0} (p : X → Bool) (xs : List X) (x : X) → Contains (filter p xs) x → Passes p xs x
passes_in_filter p [] x c = absurd (contains_nothing x c)
passes_in_filter p (z ∷ xs) x c =
    by_bool (p z)
    (λ t. ⊎_elim (λ (e : z ≡ x). passes_here p z x xs e t) (λ d. passes_later p z x xs (passes_in_filter p xs x d)) (contains_cases z (filter p xs) x (rw t at c)))
    (λ f. passes_later p z x xs (passes_in_filter p xs x (rw f at c)))

-- what a search finds stands in the list and passes
pub passes_in_find : {X : Type 0} (p : X → Bool) (xs : List X) (x : X) → find p xs ≡ Some x → Passes p xs x
passes_in_find p [] x e = absurd (cc)
passes_in_find p (z ∷ xs) x e =
    by_bool (p z) (λ t. passes_here p z x xs (same_Some z x (rw t at e)) t) (λ f. passes_later p z x xs (passes_in_find p xs x (rw f at e)))

-- one item, where a test fails
pub in_unless : {X : Type 0} (b : Bool) (x y : X) → Contains (cond b [] (x ∷ [])) y → (b ≡ false) × (x ≡ y)
in_unless true x y c = absurd (contains_nothing y c)
in_unless false x y c = (refl, contains_single x y c)

pub unless : {X : Type 0} (b : Bool) (x : X) → b ≡ false → Contains (cond b [] (x ∷ [])) x
unless true x e = absurd (true≢false e)
unless false x e = contains_here x []

-- what may be written, and is
pub record IsWritten {X Y : Type 0} (f : X → List Y) (o : Option X) (y : Y) : Type 0 where
  pub item : X
  pub is : o ≡ Some item
  pub has : Contains (f item) y

pub in_written : {X Y : Type 0} (f : X → List Y) (o : Option X) (y : Y) → Contains (option_map_or f o []) y → IsWritten f o y
in_written f None y c = absurd (contains_nothing y c)
in_written f (Some x) y c = record { item = x; is = refl; has = c }

pub written : {X Y : Type 0} (f : X → List Y) (o : Option X) (x : X) (y : Y) → o ≡ Some x → Contains (f x) y → Contains (option_map_or f o []) y
written {X = X} f o x y e c = subst (λ (p : Option X). Contains (option_map_or f p []) y) (sym e) c

-- items at their places in a list of others
pub got_in_map : {X Y : Type 0} (f : X → Y) (xs : List X) (i : ℕ) (y : Y) → slice_get (map f xs) i ≡ Some y → (x : X) × (slice_get xs i ≡ Some x) × (f x ≡ y)
got_in_map f [] i y e = absurd (let no : ⊥ = cc in no)
got_in_map f (x ∷ xs) zero y e = (x, refl, (let same : f x ≡ y = cc in same))
got_in_map f (x ∷ xs) (suc i) y e = got_in_map f xs i y e

pub map_gets : {X Y : Type 0} (f : X → Y) (xs : List X) (i : ℕ) (x : X) → slice_get xs i ≡ Some x → slice_get (map f xs) i ≡ Some (f x)
map_gets f xs i x e = slice_get-map f xs i ∙ ap (option_map f) e
