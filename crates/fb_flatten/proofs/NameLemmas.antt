-- Names of declarations: first ones, what is found by name, and lists without duplicates.
use Rattle.std.proofs.Common.{◌≡◌, suc, ℕ, ◌<◌, Bool, true, false, cond, List, [], ◌∷◌, ◌++◌, map, Option, Some, None, option_map, is_some, refl, sym, ap, ◌∙◌, subst, arith, inl, inr}
use Rattle.std.specs.{List.{Contains, cons_option, filter_map, find, slice_get}, Option.{option_and_then}}
use Rattle.fb_types.specs.{Text.declared.name.NameUse.{NameUse}, Tree.Tree.{DeclTree}, Library.View.{Sources, tree_at}, Iface.Declarations.{iface_faults_of}}
use Rattle.fb_types.specs.{Iface.Names.{first_ones, is_same, stands_for, with_first, with_firsts}, Iface.Spaces.{spaces_of}}
use Rattle.fb_types.specs.{Iface.declared.code.Code.TheVariants.{Duplicate}, Iface.declared.fault.Fault.{Fault}}
use Rattle.fb_types.proofs.{Text.Tests.{by_bool}, Text.Members.{contains_cases, contains_here, contains_later, contains_nothing}, Iface.NameLemmas.{same_exact, same_itself}}
use Rattle.fb_types.proofs.{Iface.TableLemmas.{firsts_all}, Iface.DuplicateLemmas.{duplicate_in_whole, duplicate_reported}, Iface.EarlierLemmas.{IsEarlier}}

-- ---- first declarations
other_way : (a b : List ℕ) → is_same b a ≡ false → is_same a b ≡ false
other_way a b e = grind (arith, same_exact, same_itself)

module _ {D : Type 0} where
  -- no name is declared twice
  abbrev pub Distinct : List (List ℕ × D) → Type 0
  Distinct [] = Unit {0}
  Distinct (x ∷ xs) = (stands_for xs x.0 ≡ None) × Distinct xs

  absent-push : (xs : List (List ℕ × D)) (x : List ℕ × D) (q : List ℕ) → stands_for xs q ≡ None → is_same x.0 q ≡ false → stands_for (xs ++ x ∷ []) q ≡ None
  absent-push [] x q absent other = grind arith
  absent-push (y ∷ xs) x q absent other = grind (arith, absent-push xs x q)

  distinct-push : (xs : List (List ℕ × D)) (x : List ℕ × D) → Distinct xs → is_some (stands_for xs x.0) ≡ false → Distinct (xs ++ x ∷ [])
  distinct-push [] x d absent = (refl, tt)
  distinct-push (y ∷ ys) x d absent = (grind (arith, absent-push ys x y.0, other_way), distinct-push ys x d.1 (grind arith))

  distinct-more : (xs : List (List ℕ × D)) (x : List ℕ × D) → Distinct xs → Distinct (with_first xs x)
  distinct-more xs x d = grind (arith, distinct-push)

  distinct-firsts : (xs rest : List (List ℕ × D)) → Distinct xs → Distinct (with_firsts xs rest)
  distinct-firsts xs [] d = d
  distinct-firsts xs (x ∷ rest) d = distinct-firsts (with_first xs x) rest (distinct-more xs x d)

  pub first_ones-distinct : (declarations : List (List ℕ × D)) → Distinct (first_ones declarations)
  first_ones-distinct declarations = subst (λ (l : List (List ℕ × D)). Distinct l) (firsts_all declarations) (distinct-firsts [] declarations tt)

-- ---- what is found by name among items that come from declarations
module _ {P : Type 0} (test : P → Bool) where
  module _ {D : Type 0} (name : List ℕ) where
    module _ {X : Type 0} (key : X → List ℕ) (meaning : X → D) (item : X → Option P) (made : D → Option P) (makes : (x : X) → key x ≡ name → item x ≡ made (meaning x)) (own : (x : X) (p : P) → item x ≡ Some p → test p ≡ is_same (key x) name) where
      -- what one more item changes
      one_more : (x : X) (others : List P) (rest : Option D) (p : Option P) (same : Bool) → item x ≡ p → is_same (key x) name ≡ same → (same ≡ true → rest ≡ None) → find test others ≡ option_and_then made rest → find test (cons_option p others) ≡ option_and_then made (cond same (Some (meaning x)) rest)
      one_more x others rest p same is s absent h = grind (arith, makes x, own x, same_exact)

      pub found_by_name : (xs : List X) → Distinct (map (λ x. (key x, meaning x)) xs) → find test (filter_map item xs) ≡ option_and_then made (stands_for (map (λ x. (key x, meaning x)) xs) name)
      found_by_name [] distinct = refl
      found_by_name (x ∷ xs) distinct =
          let rest = stands_for (map (λ (y : X). (key y, meaning y)) xs) in
          one_more x (filter_map item xs) (rest name) (item x) (is_same (key x) name) refl refl (λ s. ap rest (sym (same_exact (key x) name s)) ∙ distinct.0) (found_by_name xs distinct.1)

-- an element of which the member is given
pub record IsGiven {X Y : Type 0} (f : X → Option Y) (xs : List X) (y : Y) : Type 0 where
  pub origin : X
  pub among : Contains xs origin
  pub gives : f origin ≡ Some y

given_later : {X Y : Type 0} (f : X → Option Y) (x : X) (xs : List X) (y : Y) → IsGiven f xs y → IsGiven f (x ∷ xs) y
given_later f x xs y g = record { origin = g.origin; among = contains_later x xs g.origin g.among; gives = g.gives }

pub origin_in_filter_map : {X Y : Type 0} (f : X → Option Y) (xs : List X) (y : Y) → Contains (filter_map f xs) y → IsGiven f xs y
origin_in_filter_map f [] y c = absurd (contains_nothing y c)
origin_in_filter_map {X = X} {Y = Y} f (x ∷ xs) y c = by (f x) refl c (origin_in_filter_map f xs y)
  where
    by : (o : Option Y) → f x ≡ o → Contains (cons_option o (filter_map f xs)) y → (Contains (filter_map f xs) y → IsGiven f xs y) → IsGiven f (x ∷ xs) y
    by None e c more = given_later f x xs y (more c)
    by (Some z) e c more = elim (contains_cases z (filter_map f xs) y c) [
      | inl s ↦ record { origin = x; among = contains_here x xs; gives = e ∙ ap Some s }
      | inr d ↦ given_later f x xs y (more d)
    ]

-- what a map gives something of
pub mapped : {X Y : Type 0} (f : X → Y) (o : Option X) (y : Y) → option_map f o ≡ Some y → (x : X) × (o ≡ Some x) × (f x ≡ y)
mapped f o y e = grind arith

-- ---- without duplicates
-- no two places of the list have one name
abbrev pub AreApart : List NameUse → Type 0
AreApart names = (i j : ℕ) (a b : NameUse) → i < j → slice_get names i ≡ Some a → slice_get names j ≡ Some b → a.name ≡ b.name → ⊥

pub apart : (sources : Sources) (unit : List ℕ) (decl : DeclTree) (space : List NameUse) → iface_faults_of sources unit ≡ [] → tree_at sources unit ≡ Some decl → Contains (spaces_of decl) space → AreApart space
apart sources unit decl space none is among i j a b before first again same =
    let fault : Fault = record { code = Duplicate; span = b.span } in
    let earlier : IsEarlier space j b.name = record { earlier = i; before = before; first = a; first_at = first; same = same } in
    let has : Contains (iface_faults_of sources unit) fault = duplicate_in_whole sources unit decl fault is (duplicate_reported decl space j b among again earlier) in
    contains_nothing fault (subst (λ (l : List Fault). Contains l fault) none has)

module _ {X D : Type 0} (key : X → NameUse) (meaning : X → D) where
  abbrev named : X → List ℕ × D
  named x = ((key x).name, meaning x)

  absent : (q : List ℕ) (xs : List X) → ((k : ℕ) (b : NameUse) → slice_get (map key xs) k ≡ Some b → q ≡ b.name → ⊥) → stands_for (map named xs) q ≡ None
  absent q [] h = refl
  absent q (x ∷ xs) h =
      let other : is_same (key x).name q ≡ false = by_bool (is_same (key x).name q) (λ s. absurd (h 0 (key x) refl (sym (same_exact (key x).name q s)))) (λ f. f) in
      ap (λ b. cond b (Some (meaning x)) (stands_for (map named xs) q)) other ∙ absent q xs (λ k b. h (suc k) b)

  pub distinct : (xs : List X) → AreApart (map key xs) → Distinct (map (λ x. ((key x).name, meaning x)) xs)
  distinct [] h = tt
  distinct (x ∷ xs) h = (
    absent (key x).name xs (λ k b e s. h 0 (suc k) (key x) b (omega arith) refl e s),
    distinct xs (λ i j a b before first again s. h (suc i) (suc j) a b (omega arith) first again s),
  )

  -- each stands for its name
  pub stands_for_itself : (xs : List X) → Distinct (map (λ x. ((key x).name, meaning x)) xs) → (x : X) → Contains xs x → stands_for (map (λ x. ((key x).name, meaning x)) xs) (key x).name ≡ Some (meaning x)
  stands_for_itself [] d x c = absurd (contains_nothing x c)
  stands_for_itself (z ∷ xs) d x c = grind (arith, contains_cases z xs x c, stands_for_itself xs d.1 x, same_exact, same_itself)
