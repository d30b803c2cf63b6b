-- Reads that are current at some texts hold what those texts have under the names read.
use Rattle.std.proofs.Common.{◌≡◌, ℕ, Bool, true, false, ◌||◌, not, List, [], ◌∷◌, refl, sym, ap, ◌∙◌, subst, Option, Some, None, cond, nat_eq, arith, find, suc, true≢false}
use Rattle.std.proofs.{lemmas.Bool.Decides.{nat_tests}, lemmas.Cmp.{tied_itself}, lemmas.List.Elements.{All-nil, All-cons}}
use Rattle.std.specs.{List.{All, AllByRecursion}, List.Sorted.{IsStrictlySortedBy}, Ordering.{is_gt}, declared.cmp.Ordering.TheVariants.{Less}}
use Rattle.std.specs.{Cmp.Lexicographic.{pointwise}, BTreeMap.{is_at}, Option.{option_map}}
use Rattle.fb_deploy.proofs.Library.Names.{name_total}
use Rattle.fb_text.specs.Order.{name_cmp}
use Rattle.fb_deploy.specs.Library.Texts.{Texts, Held, held, text_in}
use Rattle.fb_jobs.specs.{declared.keys.key.Key.{Key}, Keys.{needs, has_key, scratch}}
use Rattle.fb_jobs.specs.Reads.{Seen, PlainJob, IsOf, IsRight, is_among, Agree, read_names, read_texts, put_found, reads_under, reads_for, same_found, same_held, is_current, stale, IsLeastStale}
use Rattle.fb_jobs.proofs.SameNeeds.{same_at, needs_local, has_key_local, scratch_local, needs_rise}

-- each read is what the texts have
abbrev pub AllCurrent : Texts → List Seen → Type 0
AllCurrent T [] = Unit {0}
AllCurrent T (r ∷ rs) = (held T r.name ≡ r.found) × AllCurrent T rs

cond_same : {X : Type 0} (b : Bool) (x y : X) → x ≡ y → cond b x y ≡ y
cond_same true x y e = e
cond_same false x y e = refl

-- one more read
more : (T : Texts) (m n : List ℕ) (found : Option Held) (rest : Texts) (b : Bool) → held T m ≡ found → held rest n ≡ cond b (held T n) None → held (put_found m found rest) n ≡ cond (is_at (name_cmp n) m || b) (held T n) None
more T m n None rest b here e =
    elim (is_at (name_cmp n) m) as (λ t. is_at (name_cmp n) m ≡ t → held rest n ≡ cond (t || b) (held T n) None) [
      | true ↦ λ at. let none : held T n ≡ None = ap (λ x. held T x) (same_at n m at) ∙ here in e ∙ cond_same b (held T n) None none ∙ sym none
      | false ↦ λ at. e
    ] refl
more T m n (Some it) rest b here e =
    elim (is_at (name_cmp n) m) as (λ t. is_at (name_cmp n) m ≡ t → cond t (Some it) (held rest n) ≡ cond (t || b) (held T n) None) [
      | true ↦ λ at. sym (ap (λ x. held T x) (same_at n m at) ∙ here)
      | false ↦ λ at. e
    ] refl

pub held_read_texts : (T : Texts) (rs : List Seen) (n : List ℕ) → AllCurrent T rs → held (read_texts rs) n ≡ cond (is_among n (read_names rs)) (held T n) None
held_read_texts T [] n all = refl
held_read_texts T (r ∷ rs) n all = more T r.name n r.found (read_texts rs) (is_among n (read_names rs)) all.0 (held_read_texts T rs n all.1)

pub agree_from_current : (T : Texts) (rs : List Seen) → AllCurrent T rs → Agree (read_texts rs) T (read_names rs)
agree_from_current T rs all n among = ap (option_map text_in) (held_read_texts T rs n all ∙ ap (λ b. cond b (held T n) None) among)

-- ---- the test

list_eq : (xs ys : List ℕ) → pointwise nat_eq xs ys ≡ true → xs ≡ ys
list_eq [] [] e = refl
list_eq [] (y ∷ ys) e = cc
list_eq (x ∷ xs) [] e = cc
list_eq (x ∷ xs) (y ∷ ys) e =
    let first : x ≡ y = grind (arith, nat_tests) in
    let rest : pointwise nat_eq xs ys ≡ true = grind (arith, nat_tests) in
    λ i. first i ∷ list_eq xs ys rest i

held_eq : (a b : Held) → same_held a b ≡ true → a ≡ b
held_eq a b e =
    let revision : a.revision ≡ b.revision = grind (arith, nat_tests) in
    let text : pointwise nat_eq a.text b.text ≡ true = grind (arith, nat_tests) in
    λ i. record { revision = revision i; text = list_eq a.text b.text text i }

pub found_eq : (a b : Option Held) → same_found a b ≡ true → a ≡ b
found_eq None None e = refl
found_eq None (Some b) e = cc
found_eq (Some a) None e = cc
found_eq (Some a) (Some b) e = ap (λ it. Some it) (held_eq a b e)

none_stale : (T : Texts) (r : Seen) (rs : List Seen) (b : Bool) → is_current T r ≡ b → option_map (λ (it : Seen). it.name) (cond (not b) (Some r) (find (λ it. not (is_current T it)) rs)) ≡ None → (is_current T r ≡ true) × (stale T rs ≡ None)
none_stale T r rs true is e = (is, e)
none_stale T r rs false is e = cc

pub current_from_stale : (T : Texts) (rs : List Seen) → stale T rs ≡ None → AllCurrent T rs
current_from_stale T [] e = tt
current_from_stale T (r ∷ rs) e =
    let parts = none_stale T r rs (is_current T r) refl e in
    (found_eq (held T r.name) r.found parts.0, current_from_stale T rs parts.1)

-- ---- jobs

pub current_under : (T : Texts) (ns : List (List ℕ)) → AllCurrent T (reads_under T ns)
current_under T [] = tt
current_under T (n ∷ ns) = (refl, current_under T ns)

pub of_under : (T : Texts) (ns : List (List ℕ)) → All (IsOf T) (reads_under T ns)
of_under T [] = All-nil (IsOf T)
of_under T (n ∷ ns) = All-cons (IsOf T) _ (reads_under T ns) refl (of_under T ns)

pub names_under : (T : Texts) (ns : List (List ℕ)) → read_names (reads_under T ns) ≡ ns
names_under T [] = refl
names_under T (n ∷ ns) = ap (λ ms. n ∷ ms) (names_under T ns)

pub agree_for : (T : Texts) (k : Key) → Agree T (read_texts (reads_for T k)) (needs T k)
agree_for T k n among = sym (agree_from_current T (reads_for T k) (current_under T (needs T k)) n (ap (λ ns. is_among n ns) (names_under T (needs T k)) ∙ among))

-- what a job reads is right in itself
pub right_for : (T : Texts) (k : Key) → has_key T k ≡ true → IsRight (record { key = k; reads = reads_for T k })
right_for T k has = record {
  has = has_key_local T (read_texts (reads_for T k)) k (agree_for T k) ∙ has;
  names = names_under T (needs T k) ∙ sym (needs_local T (read_texts (reads_for T k)) k (agree_for T k));
}

-- reads that are right in themselves and current have the value of the present texts
pub scratch_current : (T : Texts) (it : PlainJob) → IsRight it → stale T it.reads ≡ None → scratch T it.key ≡ scratch (read_texts it.reads) it.key
scratch_current T it right fresh =
    scratch_local (read_texts it.reads) T it.key (λ n among. agree_from_current T it.reads (current_from_stale T it.reads fresh) n (ap (λ ns. is_among n ns) right.names ∙ among))

-- what is read stands in order
pub reads_rise : (it : PlainJob) → IsRight it → IsStrictlySortedBy name_cmp (read_names it.reads)
reads_rise it right = subst (IsStrictlySortedBy name_cmp) (sym right.names) (needs_rise (read_texts it.reads) it.key)

-- ---- the least read that is not current

some_same : (a b : List ℕ) → Some a ≡ Some b → a ≡ b
some_same a b e = cc

-- a read that is not current has no lesser name
abbrev NotBelow : Texts → List ℕ → Seen → Type 0
NotBelow T n it = is_current T it ≡ false → is_gt (name_cmp n it.name) ≡ false

above_all : (T : Texts) (n : List ℕ) (rs : List Seen) → AllByRecursion (λ m. name_cmp n m ≡ Less) (read_names rs) → All (NotBelow T n) rs
above_all T n [] below = All-nil (NotBelow T n)
above_all T n (r ∷ rs) below = All-cons (NotBelow T n) r rs (λ _. ap is_gt below.0) (above_all T n rs below.1)

least_here : (T : Texts) (r : Seen) (rs : List Seen) (name : List ℕ) → AllByRecursion (λ m. name_cmp r.name m ≡ Less) (read_names rs) → is_current T r ≡ false → r.name ≡ name → IsLeastStale T (r ∷ rs) name
least_here T r rs name below is named = record {
  stale = (0, r, omega arith, refl, (named, is));
  least = subst (λ n. All (NotBelow T n) (r ∷ rs)) named (All-cons (NotBelow T r.name) r rs (λ _. ap is_gt (tied_itself name_total r.name)) (above_all T r.name rs below));
}

least_later : (T : Texts) (r : Seen) (rs : List Seen) (name : List ℕ) → is_current T r ≡ true → IsLeastStale T rs name → IsLeastStale T (r ∷ rs) name
least_later T r rs name is rest =
    let place = rest.stale in
    record {
      stale = (suc place.0, place.1, omega (arith, place.2), place.3, place.4);
      least = All-cons (NotBelow T name) r rs (λ not_current. absurd (true≢false (sym is ∙ not_current))) rest.least;
    }

least_by : (T : Texts) (r : Seen) (rs : List Seen) (name : List ℕ) (b : Bool) → AllByRecursion (λ m. name_cmp r.name m ≡ Less) (read_names rs) → is_current T r ≡ b → (stale T rs ≡ Some name → IsLeastStale T rs name) → option_map (λ (it : Seen). it.name) (cond (not b) (Some r) (find (λ it. not (is_current T it)) rs)) ≡ Some name → IsLeastStale T (r ∷ rs) name
least_by T r rs name false below is rest e = least_here T r rs name below is (some_same r.name name e)
least_by T r rs name true below is rest e = least_later T r rs name is (rest e)

pub least_from_sorted : (T : Texts) (rs : List Seen) (name : List ℕ) → IsStrictlySortedBy name_cmp (read_names rs) → stale T rs ≡ Some name → IsLeastStale T rs name
unfolding IsStrictlySortedBy
least_from_sorted T [] name sorted e = cc
least_from_sorted T (r ∷ rs) name sorted e = least_by T r rs name (is_current T r) sorted.0 refl (least_from_sorted T rs name sorted.1) e
