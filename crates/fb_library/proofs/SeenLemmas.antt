-- Names that were seen, and names that are pending.
use Rattle.std.proofs.Common.{◌≡◌, ℕ, ◌+◌, ◌≤◌, Bool, true, false, not, ◌||◌, List, [], ◌∷◌, ◌++◌, length, sym, ap, ◌∙◌, arith, nat_cmp, length-append}
use Rattle.std.proofs.{lemmas.Bool.{false≢true}, lemmas.Map.Views.{Contains-from_any, list_any-from_Contains, tells_apart}}
pub use Rattle.std.proofs.lemmas.Bool.{or_left, or_right}
use Rattle.std.specs.{List.{Contains}, Ordering.{eq_by_cmp}, Cmp.{eq_by_cmp_equiv}, Cmp.Lexicographic.{slice_cmp, nat_list_cmp_total}}
use Rattle.std.specs.{BTreeSet.{BTreeSet, Updates}, FinMap.{slice_cmp-IsAntisymmetric, nat_cmp-IsAntisymmetric}}
use Rattle.fb_parse.proofs.{Text.OrderLemmas.{has-append as any-append}, Text.Tests.{by_bool, or_cases, or_false, no_both}}
use Rattle.fb_parse.specs.Text.Order.{name_cmp}
use Rattle.fb_library.specs.Seen.{has_name, unseen, Opens}

abbrev pub same : List ℕ → List ℕ → Bool
same = eq_by_cmp (slice_cmp nat_cmp)

pub same_is : (x y : List ℕ) → same x y ≡ true → x ≡ y
same_is = tells_apart (slice_cmp-IsAntisymmetric nat_cmp-IsAntisymmetric)

pub same_self : (x : List ℕ) → same x x ≡ true
same_self = (eq_by_cmp_equiv nat_list_cmp_total).refl

same_swap : (x y : List ℕ) → same x y ≡ same y x
same_swap = (eq_by_cmp_equiv nat_list_cmp_total).symm

pub Contains-has : (q : List ℕ) (xs : List (List ℕ)) → has_name xs q ≡ true → Contains xs q
Contains-has = Contains-from_any same_is

pub has-Contains : (q : List ℕ) (xs : List (List ℕ)) → Contains xs q → has_name xs q ≡ true
has-Contains = list_any-from_Contains (eq_by_cmp_equiv nat_list_cmp_total)

pub has-append : (xs ys : List (List ℕ)) (q : List ℕ) → has_name (xs ++ ys) q ≡ (has_name xs q || has_name ys q)
has-append = any-append name_cmp

pub has-push : (xs : List (List ℕ)) (x q : List ℕ) → has_name (xs ++ x ∷ []) q ≡ (has_name xs q || same q x)
has-push xs x q = has-append xs (x ∷ []) q ∙ ap (λ b. has_name xs q || b) (or_false (same q x))

-- ---- counting what was not seen
-- whatever is seen is among the others
abbrev pub Grows : List (List ℕ) → List (List ℕ) → Type 0
Grows seen others = (q : List ℕ) → has_name seen q ≡ true → has_name others q ≡ true

pub fewer : (seen seen' all : List (List ℕ)) → Grows seen seen' → unseen seen' all ≤ unseen seen all
fewer seen seen' [] grows = omega arith
fewer seen seen' (y ∷ all) grows = grind (arith, fewer seen seen' all grows, grows y)

-- a name more that is seen
pub one_fewer : (seen seen' : List (List ℕ)) (x : List ℕ) → has_name seen x ≡ false → has_name seen' x ≡ true → Grows seen seen' → (all : List (List ℕ)) → has_name all x ≡ true → unseen seen' all + 1 ≤ unseen seen all
one_fewer seen seen' x new now grows [] e = absurd (false≢true e)
one_fewer seen seen' x new now grows (y ∷ all) e =
    by_bool (same x y)
    (λ s. rw (← same_is x y s, now, new) (omega (arith, fewer seen seen' all grows)))
    (λ f. grind (arith, one_fewer seen seen' x new now grows all (rw f at e), grows y))

-- some name is not seen
pub some_unseen : (seen all : List (List ℕ)) (x : List ℕ) → has_name seen x ≡ false → has_name all x ≡ true → 1 ≤ unseen seen all
some_unseen seen all x new there =
    let less = one_fewer seen (x ∷ seen) x new (or_left (same x x) _ (same_self x)) (λ q h. or_right (same q x) _ h) all there in
    omega (arith, less)

pub all_unseen : (seen all : List (List ℕ)) → unseen seen all ≤ length all
all_unseen seen [] = omega arith
all_unseen seen (y ∷ all) = grind (arith, all_unseen seen all)

-- ---- the names of one unit
pub Opens-none : (seen pending : List (List ℕ)) → Opens [] seen pending seen pending
Opens-none seen pending = record {
  marks = λ q. sym (or_false (has_name seen q));
  keeps = λ q h. h;
  opened = λ q t f. no_both (has_name seen q) t f;
  only = λ q h. or_left (has_name pending q) false h;
  falls = λ all within. omega arith;
}

module _ (names seen pending seen1 pending1 seen2 : List (List ℕ)) (x : List ℕ) (opens : Opens names seen pending seen1 pending1) (adds : (q : List ℕ) → has_name seen2 q ≡ (has_name seen1 q || same q x)) where
  grown : (q : List ℕ) → has_name seen1 q ≡ true → has_name seen2 q ≡ true
  grown q h = adds q ∙ or_left (has_name seen1 q) (same q x) h

  pub Opens-new : has_name seen1 x ≡ false → Opens (names ++ x ∷ []) seen pending seen2 (pending1 ++ x ∷ [])
  Opens-new new = record {
    marks = λ q. grind (arith, adds q, opens.marks q, has-push names x q);
    keeps = λ q h. has-push pending1 x q ∙ or_left (has_name pending1 q) (same q x) (opens.keeps q h);
    opened = λ q t f. grind (arith, adds q, opens.opened q, has-push pending1 x q);
    only = λ q h. grind (arith, opens.only q, has-push names x q, has-push pending1 x q);
    falls = λ all within.
        let before = opens.falls all (λ q h. within q (has-push names x q ∙ or_left (has_name names q) (same q x) h)) in
        let there = within x (has-push names x x ∙ or_right (has_name names x) (same x x) (same_self x)) in
        let less = one_fewer seen1 seen2 x new (adds x ∙ or_right (has_name seen1 x) (same x x) (same_self x)) grown all there in
        omega (arith, before, less, length-append pending1 (x ∷ []));
  }

  pub Opens-old : has_name seen1 x ≡ true → Opens (names ++ x ∷ []) seen pending seen2 pending1
  Opens-old old = record {
    marks = λ q. grind (arith, adds q, opens.marks q, has-push names x q);
    keeps = opens.keeps;
    opened = λ q t f. or_cases (has_name seen1 q) (same q x) (sym (adds q) ∙ t) (λ l. opens.opened q l f) (λ r. opens.opened q (ap (has_name seen1) (same_is q x r) ∙ old) f);
    only = λ q h. grind (arith, opens.only q h, has-push names x q);
    falls = λ all within.
        let before = opens.falls all (λ q h. within q (has-push names x q ∙ or_left (has_name names q) (same q x) h)) in
        let less = fewer seen1 seen2 all grown in
        omega (arith, before, less);
  }

-- opening names, and then others, opens all of them
module _ (names others seen pending seen1 pending1 seen2 pending2 : List (List ℕ)) where
  pub Opens-both : Opens names seen pending seen1 pending1 → Opens others seen1 pending1 seen2 pending2 → Opens (names ++ others) seen pending seen2 pending2
  Opens-both first second = record {
    marks = λ q. grind (arith, first.marks q, second.marks q, has-append names others q);
    keeps = λ q h. second.keeps q (first.keeps q h);
    opened = λ q t f. by_bool (has_name seen1 q) (λ one. second.keeps q (first.opened q one f)) (λ none. second.opened q t none);
    only = λ q h. grind (arith, first.only q, second.only q h, has-append names others q);
    falls = λ all within.
        let one = first.falls all (λ q h. within q (has-append names others q ∙ or_left (has_name names q) _ h)) in
        let two = second.falls all (λ q h. within q (has-append names others q ∙ or_right (has_name names q) _ h)) in
        omega (arith, one, two);
  }

-- what `insert` says of a set, in these words
pub has-updates : (old new : BTreeSet (List ℕ)) (x : List ℕ) → Updates (slice_cmp nat_cmp) old new x true → (q : List ℕ) → has_name new.keys q ≡ (has_name old.keys q || same q x)
has-updates old new x updates q = grind (arith, updates.0 q, same_swap x q)

-- ---- for the answers
pub not_true : (a b : Bool) → a ≡ not b → a ≡ true → b ≡ false
not_true a b e t = grind arith

pub not_false : (a b : Bool) → a ≡ not b → a ≡ false → b ≡ true
not_false a b e f = grind arith

-- one name in an empty set
pub begun : (old new : BTreeSet (List ℕ)) (x : List ℕ) → old.keys ≡ [] → Updates (slice_cmp nat_cmp) old new x true → (q : List ℕ) → has_name new.keys q ≡ same q x
begun old new x none updates q = has-updates old new x updates q ∙ ap (λ l. has_name l q || same q x) none

pub one_pushed : (xs ys : List (List ℕ)) (x : List ℕ) → xs ≡ [] → ys ≡ xs ++ x ∷ [] → ys ≡ x ∷ []
one_pushed xs ys x none is = is ∙ ap (λ l. l ++ x ∷ []) none

pub longer : (xs ys : List (List ℕ)) (x : List ℕ) → xs ≡ ys ++ x ∷ [] → length xs ≡ length ys + 1
longer xs ys x is = ap length is ∙ length-append ys (x ∷ [])
