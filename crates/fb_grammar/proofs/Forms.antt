-- Spellings, prefixes and what reading by a predictive form gives.
use Rattle.std.proofs.Common.{◌≡◌, ℕ, zero, suc, ◌≤◌, Bool, true, false, cond, ◌||◌, not, nat_eq, ◌⊎◌, inl, inr, List, [], ◌∷◌, ◌++◌, length, Some, None, Ok, Err, refl, sym, ◌∙◌, ap, subst, arith, append_assoc, length-append, ap₂}
use Rattle.std.proofs.lemmas.Bool.{and_parts, or_left, or_right}
use borrow.Author.Tests.{eqb-true}
use Rattle.fb_tree.proofs.Text.Tests.{not_true}
use Rattle.fb_grammar.specs.{declared.kind.Kind.{Kind}, declared.lexeme.Lexeme.{Lexeme}, Kind.{is_among, same_kind, code_of}}
use Rattle.fb_grammar.specs.{Form.{Form, one, both, either, option, many, as_value, Spells, SpellsEach, Prefix}, Fault.{IsStuck, IsFault}}
use Rattle.fb_grammar.specs.Reading.{is_nullable, first, after, are_apart, is_predictive, Outcome, ◌>>=◌, is_next, read_one, read_each, read}

-- Tests

pub or_cases : (a b : Bool) → (a || b) ≡ true → (a ≡ true) ⊎ (b ≡ true)
or_cases true b h = inl refl
or_cases false b h = inr h

pub among_left : (a b : List Kind) (k : Kind) → is_among a k ≡ true → is_among (a ++ b) k ≡ true
among_left [] b k h = cc
among_left (x ∷ a) b k h = elim (or_cases (same_kind x k) (is_among a k) h) [ inl p ↦ or_left (same_kind x k) (is_among (a ++ b) k) p | inr q ↦ or_right (same_kind x k) (is_among (a ++ b) k) (among_left a b k q) ]

pub among_right : (a b : List Kind) (k : Kind) → is_among b k ≡ true → is_among (a ++ b) k ≡ true
among_right [] b k h = h
among_right (x ∷ a) b k h = or_right (same_kind x k) (is_among (a ++ b) k) (among_right a b k h)

-- none of both lists
none_left : (a b : List Kind) (ts : List Lexeme) → is_next (a ++ b) ts ≡ false → is_next a ts ≡ false
none_left a b [] h = refl
none_left a b (t ∷ ts) h = go (is_among a t.kind) refl
  where
    go : (r : Bool) → is_among a t.kind ≡ r → r ≡ false
    go true e = cc (among_left a b t.kind e, h)
    go false e = refl

none_right : (a b : List Kind) (ts : List Lexeme) → is_next (a ++ b) ts ≡ false → is_next b ts ≡ false
none_right a b [] h = refl
none_right a b (t ∷ ts) h = go (is_among b t.kind) refl
  where
    go : (r : Bool) → is_among b t.kind ≡ r → r ≡ false
    go true e = cc (among_right a b t.kind e, h)
    go false e = refl

same_from_code : (a b k : Kind) → same_kind a k ≡ true → same_kind b k ≡ same_kind b a
same_from_code a b k h = ap (λ n. nat_eq (code_of b) n) (sym (eqb-true (code_of a) (code_of k) h))

pub among_same : (a : Kind) (b : List Kind) (k : Kind) → same_kind a k ≡ true → is_among b k ≡ is_among b a
among_same a [] k h = refl
among_same a (x ∷ b) k h = rw (same_from_code a x k h, among_same a b k h) refl

-- what is among one list is not among one apart from it
pub apart_among : (a b : List Kind) (k : Kind) → are_apart a b ≡ true → is_among a k ≡ true → is_among b k ≡ false
apart_among [] b k h m = cc
apart_among (x ∷ a) b k h m = elim (or_cases (same_kind x k) (is_among a k) m) [ inl p ↦ among_same x b k p ∙ not_true (is_among b x) (and_parts (not (is_among b x)) (are_apart a b) h).0 | inr q ↦ apart_among a b k (and_parts (not (is_among b x)) (are_apart a b) h).1 q ]

pub apart_among_left : (a b : List Kind) (k : Kind) → are_apart a b ≡ true → is_among b k ≡ true → is_among a k ≡ false
apart_among_left a b k h m = go (is_among a k) refl
  where
    go : (r : Bool) → is_among a k ≡ r → r ≡ false
    go true e = cc (apart_among a b k h e, m)
    go false e = refl

-- Lists

nil_parts : (us vs : List Lexeme) → [] ≡ us ++ vs → (us ≡ []) × (vs ≡ [])
nil_parts [] vs e = (refl, sym e)
nil_parts (u ∷ us) vs e = cc

append_nil : (us : List Lexeme) → us ++ [] ≡ us
append_nil [] = refl
append_nil (u ∷ us) = ap (λ z. u ∷ z) (append_nil us)

-- Prefixes and spellings

pub prefix_nil : {A : Type 0} (x : Form A) → Prefix x []
prefix_nil (one kinds) = inl refl
prefix_nil (both x y) = inl (prefix_nil x)
prefix_nil (either x y) = inl (prefix_nil x)
prefix_nil (option x) = prefix_nil x
prefix_nil (many x) = ([], [], [], refl, refl, prefix_nil x)
prefix_nil (as_value f x) = prefix_nil x

pub prefix_of_spelling : {A : Type 0} (x : Form A) (us : List Lexeme) (v : A) → Spells x us v → Prefix x us
prefix_of_spelling (one kinds) us v s = inr (v, s.0, s.1)
prefix_of_spelling (both x y) us v s = inr (s.0, s.1, v.0, s.2, s.3, prefix_of_spelling y s.1 v.1 s.4)
prefix_of_spelling (either x y) us v s = elim s [ inl p ↦ inl (prefix_of_spelling x us v p) | inr p ↦ inr (prefix_of_spelling y us v p) ]
prefix_of_spelling (option x) us None s = subst (Prefix x) (sym s) (prefix_nil x)
prefix_of_spelling (option x) us (Some v) s = prefix_of_spelling x us v s
prefix_of_spelling (many x) us vs s = (us, [], vs, sym (append_nil us), s, prefix_nil x)
prefix_of_spelling (as_value f x) us v s = prefix_of_spelling x us s.0 s.1

nullable_of_spelling : {A : Type 0} (x : Form A) (ts : List Lexeme) (v : A) → Spells x ts v → ts ≡ [] → is_nullable x ≡ true
nullable_of_spelling (one kinds) ts v s e = cc (s.0, e)
nullable_of_spelling (both x y) ts v s e =
    let parts = nil_parts s.0 s.1 (sym e ∙ s.2) in
    let p = nullable_of_spelling x s.0 v.0 s.3 parts.0 in
    let q = nullable_of_spelling y s.1 v.1 s.4 parts.1 in
    rw (p, q) refl
nullable_of_spelling (either x y) ts v s e = elim s [ inl p ↦ or_left (is_nullable x) (is_nullable y) (nullable_of_spelling x ts v p e) | inr p ↦ or_right (is_nullable x) (is_nullable y) (nullable_of_spelling y ts v p e) ]
nullable_of_spelling (option x) ts v s e = refl
nullable_of_spelling (many x) ts v s e = refl
nullable_of_spelling (as_value f x) ts v s e = nullable_of_spelling x ts s.0 s.1 e

same_head : (kinds : List Kind) (t u : Lexeme) (ts us : List Lexeme) → t ∷ ts ≡ u ∷ us → is_among kinds t.kind ≡ true → is_among kinds u.kind ≡ true
same_head kinds t u ts us e h = let same : t ≡ u = cc in subst (λ (z : Lexeme). is_among kinds z.kind ≡ true) same h

first_of_both_left : {A B : Type 0} (x : Form A) (y : Form B) (k : Kind) → is_among (first x) k ≡ true → is_among (first (both x y)) k ≡ true
first_of_both_left x y k h = go (is_nullable x) refl
  where
    go : (r : Bool) → is_nullable x ≡ r → is_among (first (both x y)) k ≡ true
    go true e = rw e (among_left (first x) (first y) k h)
    go false e = rw e h

first_of_both_right : {A B : Type 0} (x : Form A) (y : Form B) (k : Kind) → is_nullable x ≡ true → is_among (first y) k ≡ true → is_among (first (both x y)) k ≡ true
first_of_both_right x y k e h = rw e (among_right (first x) (first y) k h)

first_of_pair : {A B : Type 0} (x : Form A) (y : Form B) (a b : List Lexeme) (v : A) (t : Lexeme) (ts : List Lexeme)
    → ((u : Lexeme) (us : List Lexeme) → Prefix x (u ∷ us) → is_among (first x) u.kind ≡ true)
    → (Prefix y (t ∷ ts) → is_among (first y) t.kind ≡ true)
    → Spells x a v → Prefix y b → a ++ b ≡ t ∷ ts → is_among (first (both x y)) t.kind ≡ true
first_of_pair x y [] b v t ts hx hy s g d = first_of_both_right x y t.kind (nullable_of_spelling x [] v s refl) (hy (subst (Prefix y) d g))
first_of_pair x y (u ∷ a) b v t ts hx hy s g d = first_of_both_left x y t.kind (same_head (first x) u t (a ++ b) ts d (hx u a (prefix_of_spelling x (u ∷ a) v s)))

first_of_step : {A : Type 0} (x : Form A) (a b rest : List Lexeme) (v : A) (t : Lexeme) (ts : List Lexeme)
    → ((u : Lexeme) (us : List Lexeme) → Prefix x (u ∷ us) → is_among (first x) u.kind ≡ true)
    → Spells x a v → (a ++ b) ++ rest ≡ t ∷ ts → (b ++ rest ≡ t ∷ ts → is_among (first x) t.kind ≡ true) → is_among (first x) t.kind ≡ true
first_of_step x [] b rest v t ts h p d more = more d
first_of_step x (u ∷ a) b rest v t ts h p d more = same_head (first x) u t ((a ++ b) ++ rest) ts d (h u a (prefix_of_spelling x (u ∷ a) v p))

first_of_each : {A : Type 0} (x : Form A) (us rest : List Lexeme) (vs : List A) (t : Lexeme) (ts : List Lexeme)
    → ((u : Lexeme) (us : List Lexeme) → Prefix x (u ∷ us) → is_among (first x) u.kind ≡ true)
    → SpellsEach (Spells x) us vs → Prefix x rest → us ++ rest ≡ t ∷ ts → is_among (first x) t.kind ≡ true
first_of_each x us rest [] t ts h s f e = h t ts (subst (Prefix x) (ap (λ z. z ++ rest) (sym s) ∙ e) f)
first_of_each x us rest (v ∷ vs) t ts h s f e = first_of_step x s.0 s.1 rest v t ts h s.3 (ap (λ z. z ++ rest) (sym s.2) ∙ e) (λ d. first_of_each x s.1 rest vs t ts h s.4 f d)

-- a prefix that isn't empty begins with one of the first kinds
pub first_of_prefix : {A : Type 0} (x : Form A) (t : Lexeme) (ts : List Lexeme) → Prefix x (t ∷ ts) → is_among (first x) t.kind ≡ true
first_of_prefix (one kinds) t ts f = elim f [ inl p ↦ cc p | inr p ↦ same_head kinds p.0 t [] ts (sym p.1) p.2 ]
first_of_prefix (both x y) t ts f = elim f [ inl p ↦ first_of_both_left x y t.kind (first_of_prefix x t ts p) | inr p ↦ first_of_pair x y p.0 p.1 p.2 t ts (first_of_prefix x) (first_of_prefix y t ts) p.4 p.5 (sym p.3) ]
first_of_prefix (either x y) t ts f = elim f [ inl p ↦ among_left (first x) (first y) t.kind (first_of_prefix x t ts p) | inr p ↦ among_right (first x) (first y) t.kind (first_of_prefix y t ts p) ]
first_of_prefix (option x) t ts f = first_of_prefix x t ts f
first_of_prefix (many x) t ts f = first_of_each x f.0 f.1 f.2 t ts (first_of_prefix x) f.4 f.5 (sym f.3)
first_of_prefix (as_value g x) t ts f = first_of_prefix x t ts f

-- Reading

if_either : {X : Type 0} (P : X → Type 0) (t : Bool) (a b : X) → (t ≡ true → P a) → (t ≡ false → P b) → P (cond t a b)
if_either P true a b h g = h refl
if_either P false a b h g = g refl

-- what is taken from the tokens
abbrev pub Takes : {A : Type 0} → (List Lexeme → A → Type 0) → List Lexeme → A → List Lexeme → Type 0
Takes P ts v rest = (us : List Lexeme) × (ts ≡ us ++ rest) × P us v

-- what was read is spelled in front of the rest, and what stands before a fault is a prefix
abbrev pub Right : {A : Type 0} → (List Lexeme → A → Type 0) → (List Lexeme → Type 0) → List Lexeme → Outcome A → Type 0
Right P Q ts (Ok a) = Takes P ts a.0 a.1
Right P Q ts (Err rest) = (us : List Lexeme) × (ts ≡ us ++ rest) × Q us

right_one : (kinds : List Kind) (ts : List Lexeme) → Right (Spells (one kinds)) (Prefix (one kinds)) ts (read_one kinds ts)
right_one kinds [] = ([], refl, inl refl)
right_one kinds (t ∷ ts) = if_either (Right (Spells (one kinds)) (Prefix (one kinds)) (t ∷ ts)) (is_among kinds t.kind) _ _ (λ h. (t ∷ [], refl, (refl, h))) (λ h. ([], refl, inl refl))

right_second : {A B : Type 0} (x : Form A) (y : Form B) (ts : List Lexeme) (a : A) (mid : List Lexeme) → Takes (Spells x) ts a mid
    → (r : Outcome B) → Right (Spells y) (Prefix y) mid r → Right (Spells (both x y)) (Prefix (both x y)) ts (r >>= λ b. Ok ((a, b.0), b.1))
right_second x y ts a mid s (Ok b) t = (s.0 ++ t.0, s.1 ∙ ap (λ z. s.0 ++ z) t.1 ∙ sym (append_assoc s.0 t.0 b.1), (s.0, t.0, refl, s.2, t.2))
right_second x y ts a mid s (Err rest) t = (s.0 ++ t.0, s.1 ∙ ap (λ z. s.0 ++ z) t.1 ∙ sym (append_assoc s.0 t.0 rest), inr (s.0, t.0, a, refl, s.2, t.2))

right_both : {A B : Type 0} (x : Form A) (y : Form B) (ts : List Lexeme) (r : Outcome A) → Right (Spells x) (Prefix x) ts r
    → ((mid : List Lexeme) → Right (Spells y) (Prefix y) mid (read y mid))
    → Right (Spells (both x y)) (Prefix (both x y)) ts (r >>= λ a. read y a.1 >>= λ b. Ok ((a.0, b.0), b.1))
right_both x y ts (Ok a) s h = right_second x y ts a.0 a.1 s (read y a.1) (h a.1)
right_both x y ts (Err rest) s h = (s.0, s.1, inl s.2)

right_left : {A : Type 0} (x y : Form A) (ts : List Lexeme) (r : Outcome A) → Right (Spells x) (Prefix x) ts r → Right (Spells (either x y)) (Prefix (either x y)) ts r
right_left x y ts (Ok a) s = (s.0, s.1, inl s.2)
right_left x y ts (Err rest) s = (s.0, s.1, inl s.2)

right_other : {A : Type 0} (x y : Form A) (ts : List Lexeme) (r : Outcome A) → Right (Spells y) (Prefix y) ts r → Right (Spells (either x y)) (Prefix (either x y)) ts r
right_other x y ts (Ok a) s = (s.0, s.1, inr s.2)
right_other x y ts (Err rest) s = (s.0, s.1, inr s.2)

right_some : {A : Type 0} (x : Form A) (ts : List Lexeme) (r : Outcome A) → Right (Spells x) (Prefix x) ts r → Right (Spells (option x)) (Prefix (option x)) ts (r >>= λ a. Ok (Some a.0, a.1))
right_some x ts (Ok a) s = s
right_some x ts (Err rest) s = s

right_as : {A B : Type 0} (f : A → B) (x : Form A) (ts : List Lexeme) (r : Outcome A) → Right (Spells x) (Prefix x) ts r → Right (Spells (as_value f x)) (Prefix (as_value f x)) ts (r >>= λ a. Ok (f a.0, a.1))
right_as f x ts (Ok a) s = (s.0, s.1, (a.0, s.2, refl))
right_as f x ts (Err rest) s = s

right_more : {A : Type 0} (x : Form A) (ts : List Lexeme) (a : A) (mid : List Lexeme) → Takes (Spells x) ts a mid
    → (r : Outcome (List A)) → Right (Spells (many x)) (Prefix (many x)) mid r → Right (Spells (many x)) (Prefix (many x)) ts (r >>= λ b. Ok (a ∷ b.0, b.1))
right_more x ts a mid s (Ok b) t = (s.0 ++ t.0, s.1 ∙ ap (λ z. s.0 ++ z) t.1 ∙ sym (append_assoc s.0 t.0 b.1), (s.0, t.0, refl, s.2, t.2))
right_more x ts a mid s (Err rest) t = (
  s.0 ++ t.0,
  s.1 ∙ ap (λ z. s.0 ++ z) t.1 ∙ sym (append_assoc s.0 t.0 rest),
  (s.0 ++ t.2.0, t.2.1, a ∷ t.2.2, ap (λ z. s.0 ++ z) t.2.3 ∙ sym (append_assoc s.0 t.2.0 t.2.1), (s.0, t.2.0, refl, s.2, t.2.4), t.2.5),
)

right_each_step : {A : Type 0} (x : Form A) (n : ℕ) (ts : List Lexeme) (r : Outcome A) → Right (Spells x) (Prefix x) ts r
    → ((mid : List Lexeme) → Right (Spells (many x)) (Prefix (many x)) mid (read_each (read x) (first x) n mid))
    → Right (Spells (many x)) (Prefix (many x)) ts (r >>= λ a. read_each (read x) (first x) n a.1 >>= λ b. Ok (a.0 ∷ b.0, b.1))
right_each_step x n ts (Ok a) s h = right_more x ts a.0 a.1 s (read_each (read x) (first x) n a.1) (h a.1)
right_each_step x n ts (Err rest) s h = (s.0, s.1, ([], s.0, [], refl, refl, s.2))

right_each : {A : Type 0} (x : Form A) (h : (ts : List Lexeme) → Right (Spells x) (Prefix x) ts (read x ts)) (n : ℕ) (ts : List Lexeme) → Right (Spells (many x)) (Prefix (many x)) ts (read_each (read x) (first x) n ts)
right_each x h zero ts = ([], refl, refl)
right_each x h (suc n) ts = if_either (Right (Spells (many x)) (Prefix (many x)) ts) (is_next (first x) ts) _ _ (λ p. right_each_step x n ts (read x ts) (h ts) (right_each x h n)) (λ p. ([], refl, refl))

pub right_read : {A : Type 0} (x : Form A) (ts : List Lexeme) → Right (Spells x) (Prefix x) ts (read x ts)
right_read (one kinds) ts = right_one kinds ts
right_read (both x y) ts = right_both x y ts (read x ts) (right_read x ts) (right_read y)
right_read (either x y) ts = if_either (Right (Spells (either x y)) (Prefix (either x y)) ts) (is_next (first x) ts) _ _ (λ p. right_left x y ts (read x ts) (right_read x ts)) (λ p. right_other x y ts (read y ts) (right_read y ts))
right_read (option x) ts = if_either (Right (Spells (option x)) (Prefix (option x)) ts) (is_next (first x) ts) _ _ (λ p. right_some x ts (read x ts) (right_read x ts)) (λ p. ([], refl, refl))
right_read (many x) ts = right_each x (right_read x) (length ts) ts
right_read (as_value f x) ts = right_as f x ts (read x ts) (right_read x ts)

-- Whatever is spelled is read

next_of_prefix : {A : Type 0} (x : Form A) (ts : List Lexeme) → Prefix x ts → (ts ≡ []) ⊎ (is_next (first x) ts ≡ true)
next_of_prefix x [] f = inl refl
next_of_prefix x (t ∷ ts) f = inr (first_of_prefix x t ts f)

next_append : (kinds : List Kind) (us rest : List Lexeme) → is_next kinds us ≡ true → is_next kinds (us ++ rest) ≡ true
next_append kinds [] rest h = cc
next_append kinds (u ∷ us) rest h = h

next_apart : (a b : List Kind) (ts : List Lexeme) → are_apart a b ≡ true → is_next b ts ≡ true → is_next a ts ≡ false
next_apart a b [] h n = refl
next_apart a b (t ∷ ts) h n = apart_among_left a b t.kind h n

-- what follows a spelling of x in front of a prefix of y does not go on as x
none_after : {B : Type 0} (kinds : List Kind) (y : Form B) (us rest : List Lexeme) → are_apart kinds (first y) ≡ true → Prefix y us → (us ≡ [] → is_next kinds rest ≡ false) → is_next kinds (us ++ rest) ≡ false
none_after kinds y [] rest h f g = g refl
none_after kinds y (u ∷ us) rest h f g = apart_among_left kinds (first y) u.kind h (first_of_prefix y u us f)

after_left : {A B : Type 0} (x : Form A) (y : Form B) (rest : List Lexeme) → is_nullable y ≡ true → is_next (after (both x y)) rest ≡ false → is_next (after x) rest ≡ false
after_left x y rest e h = none_left (after x) (after y) rest (let P : Bool → Type 0 = λ b. is_next (cond b (after x ++ after y) (after y)) rest ≡ false in subst P e h)

after_right : {A B : Type 0} (x : Form A) (y : Form B) (rest : List Lexeme) → is_next (after (both x y)) rest ≡ false → is_next (after y) rest ≡ false
after_right x y rest h = go (is_nullable y) refl
  where
    go : (r : Bool) → is_nullable y ≡ r → is_next (after y) rest ≡ false
    go true e = none_right (after x) (after y) rest (let P : Bool → Type 0 = λ b. is_next (cond b (after x ++ after y) (after y)) rest ≡ false in subst P e h)
    go false e = let P : Bool → Type 0 = λ b. is_next (cond b (after x ++ after y) (after y)) rest ≡ false in subst P e h

spelled_next : {A : Type 0} (x : Form A) (us : List Lexeme) (v : A) (rest : List Lexeme) → is_nullable x ≡ false → Spells x us v → is_next (first x) (us ++ rest) ≡ true
spelled_next x us v rest n s = elim (next_of_prefix x us (prefix_of_spelling x us v s)) [ inl p ↦ cc (nullable_of_spelling x us v s p, n) | inr p ↦ next_append (first x) us rest p ]

-- the parts of a test that a form is predictive
predictive_left : {A B : Type 0} (x : Form A) (y : Form B) → is_predictive (both x y) ≡ true → is_predictive x ≡ true
predictive_left x y h = (and_parts _ _ h).0

predictive_right : {A B : Type 0} (x : Form A) (y : Form B) → is_predictive (both x y) ≡ true → is_predictive y ≡ true
predictive_right x y h = (and_parts _ _ (and_parts (is_predictive x) _ h).1).0

predictive_apart : {A B : Type 0} (x : Form A) (y : Form B) → is_predictive (both x y) ≡ true → are_apart (after x) (first y) ≡ true
predictive_apart x y h = (and_parts (is_predictive y) _ (and_parts (is_predictive x) _ h).1).1

pub record Choice {A : Type 0} (x y : Form A) : Type 0 where
  pub left : is_predictive x ≡ true
  pub right : is_predictive y ≡ true
  pub apart : are_apart (first x) (first y) ≡ true
  pub left_filled : is_nullable x ≡ false
  pub right_filled : is_nullable y ≡ false

choice : {A : Type 0} (x y : Form A) → is_predictive (either x y) ≡ true → Choice x y
choice x y h =
    let right = (and_parts (is_predictive x) _ h).1 in
    let tests = (and_parts (is_predictive y) _ right).1 in
    let filled = (and_parts (are_apart (first x) (first y)) _ tests).1 in
    record {
      left = (and_parts _ _ h).0;
      right = (and_parts _ _ right).0;
      apart = (and_parts _ _ tests).0;
      left_filled = not_true _ (and_parts _ _ filled).0;
      right_filled = not_true _ (and_parts (not (is_nullable x)) _ filled).1;
    }

pub length_of_spelling : {A : Type 0} (x : Form A) (us : List Lexeme) (v : A) → is_nullable x ≡ false → Spells x us v → 1 ≤ length us
length_of_spelling x [] v n s = cc (nullable_of_spelling x [] v s refl, n)
length_of_spelling x (u ∷ us) v n s = omega arith

complete_one : (kinds : List Kind) (us : List Lexeme) (v : Lexeme) (rest : List Lexeme) → Spells (one kinds) us v → read_one kinds (us ++ rest) ≡ Ok (v, rest)
complete_one kinds us v rest s = rw s.0 (rw s.1 refl)

complete_both : {A B : Type 0} (x : Form A) (y : Form B) (us a b : List Lexeme) (v : A) (w : B) (rest : List Lexeme)
    → us ≡ a ++ b → read x (a ++ (b ++ rest)) ≡ Ok (v, b ++ rest) → read y (b ++ rest) ≡ Ok (w, rest) → read (both x y) (us ++ rest) ≡ Ok ((v, w), rest)
complete_both x y us a b v w rest e f g =
    let whole : us ++ rest ≡ a ++ (b ++ rest) = ap (λ z. z ++ rest) e ∙ append_assoc a b rest in
    rw whole (rw f (rw g refl))

complete_each_step : {A : Type 0} (r : List Lexeme → Outcome A) (kinds : List Kind) (n : ℕ) (us a b : List Lexeme) (v : A) (vs : List A) (rest : List Lexeme)
    → us ≡ a ++ b → is_next kinds (a ++ (b ++ rest)) ≡ true → r (a ++ (b ++ rest)) ≡ Ok (v, b ++ rest) → read_each r kinds n (b ++ rest) ≡ Ok (vs, rest) → read_each r kinds (suc n) (us ++ rest) ≡ Ok (v ∷ vs, rest)
complete_each_step r kinds n us a b v vs rest e p f g =
    let whole : us ++ rest ≡ a ++ (b ++ rest) = ap (λ z. z ++ rest) e ∙ append_assoc a b rest in
    rw whole (rw p (rw f (rw g refl)))

complete_end : {A : Type 0} (r : List Lexeme → Outcome A) (kinds : List Kind) (n : ℕ) (us rest : List Lexeme) → us ≡ [] → is_next kinds rest ≡ false → read_each r kinds n (us ++ rest) ≡ Ok ([], rest)
complete_end r kinds zero us rest e p = rw e refl
complete_end r kinds (suc n) us rest e p = rw e (rw p refl)

complete_each : {A : Type 0} (x : Form A)
    → ((us : List Lexeme) (v : A) (rest : List Lexeme) → Spells x us v → is_next (after x) rest ≡ false → read x (us ++ rest) ≡ Ok (v, rest))
    → is_nullable x ≡ false → are_apart (after x) (first x) ≡ true
    → (n : ℕ) (us : List Lexeme) (vs : List A) (rest : List Lexeme) → length us ≤ n → SpellsEach (Spells x) us vs → is_next (first x ++ after x) rest ≡ false
    → read_each (read x) (first x) n (us ++ rest) ≡ Ok (vs, rest)
complete_each x h filled apart n us [] rest le s p = complete_end (read x) (first x) n us rest s (none_left (first x) (after x) rest p)
complete_each x h filled apart zero us (v ∷ vs) rest le s p =
    let more = length_of_spelling x s.0 v filled s.3 in
    absurd (omega (arith, ap length s.2, length-append s.0 s.1))
complete_each x h filled apart (suc n) us (v ∷ vs) rest le s p =
    let more = length_of_spelling x s.0 v filled s.3 in
    let shorter : length s.1 ≤ n = omega (arith, ap length s.2, length-append s.0 s.1) in
    complete_each_step (read x) (first x) n us s.0 s.1 v vs rest s.2
    (spelled_next x s.0 v (s.1 ++ rest) filled s.3)
    (h s.0 v (s.1 ++ rest) s.3 (none_after (after x) (many x) s.1 rest apart (prefix_of_spelling (many x) s.1 vs s.4) (λ e. none_right (first x) (after x) rest p)))
    (complete_each x h filled apart n s.1 vs rest shorter s.4 p)

-- what is spelled, with a rest behind it that does not go on, is read
pub complete : {A : Type 0} (x : Form A) → is_predictive x ≡ true → (us : List Lexeme) (v : A) (rest : List Lexeme) → Spells x us v → is_next (after x) rest ≡ false → read x (us ++ rest) ≡ Ok (v, rest)
complete (one kinds) h us v rest s p = complete_one kinds us v rest s
complete (both x y) h us v rest s p =
    complete_both x y us s.0 s.1 v.0 v.1 rest s.2
    (complete x (predictive_left x y h) s.0 v.0 (s.1 ++ rest) s.3 (none_after (after x) y s.1 rest (predictive_apart x y h) (prefix_of_spelling y s.1 v.1 s.4) (λ e. after_left x y rest (nullable_of_spelling y s.1 v.1 s.4 e) p)))
    (complete y (predictive_right x y h) s.1 v.1 rest s.4 (after_right x y rest p))
complete (either x y) h us v rest s p =
    let c = choice x y h in
    elim s [
      | inl q ↦ rw (spelled_next x us v rest c.left_filled q) (complete x c.left us v rest q (none_left (after x) (after y) rest p))
      | inr q ↦ rw (next_apart (first x) (first y) (us ++ rest) c.apart (spelled_next y us v rest c.right_filled q)) (complete y c.right us v rest q (none_right (after x) (after y) rest p))
    ]
complete (option x) h us None rest s p = rw s (rw (none_left (first x) (after x) rest p) refl)
complete (option x) h us (Some v) rest s p =
    rw (spelled_next x us v rest (not_true _ (and_parts (is_predictive x) _ h).1) s) (rw (complete x (and_parts _ _ h).0 us v rest s (none_right (first x) (after x) rest p)) refl)
complete (many x) h us vs rest s p =
    let tests = (and_parts (is_predictive x) _ h).1 in
    complete_each x (complete x (and_parts _ _ h).0) (not_true _ (and_parts _ _ tests).0) (and_parts (not (is_nullable x)) _ tests).1 (length (us ++ rest)) us vs rest (omega (arith, length-append us rest)) s p
complete (as_value f x) h us v rest s p = rw (complete x h us s.0 rest s.1 p) (rw s.2 refl)

-- Reading passes over every prefix

-- at most so many tokens are left
abbrev pub Within : {A : Type 0} → ℕ → Outcome A → Type 0
Within n (Ok a) = length a.1 ≤ n
Within n (Err rest) = length rest ≤ n

within_more : {A : Type 0} (m n : ℕ) (r : Outcome A) → Within m r → m ≤ n → Within n r
within_more m n (Ok a) h le = omega arith
within_more m n (Err rest) h le = omega arith

within_bind : {A B : Type 0} (n : ℕ) (r : Outcome A) (f : A × List Lexeme → Outcome B) → Within n r → ((a : A × List Lexeme) → length a.1 ≤ n → Within n (f a)) → Within n (r >>= f)
within_bind n (Ok a) f h g = g a h
within_bind n (Err rest) f h g = h

within_of_right : {A : Type 0} (P : List Lexeme → A → Type 0) (Q : List Lexeme → Type 0) (ts : List Lexeme) (r : Outcome A) → Right P Q ts r → Within (length ts) r
within_of_right P Q ts (Ok a) h = omega (arith, ap length h.1, length-append h.0 a.1)
within_of_right P Q ts (Err rest) h = omega (arith, ap length h.1, length-append h.0 rest)

within_read : {A : Type 0} (x : Form A) (ts : List Lexeme) → Within (length ts) (read x ts)
within_read x ts = within_of_right (Spells x) (Prefix x) ts (read x ts) (right_read x ts)

within_each : {A : Type 0} (x : Form A) (n : ℕ) (ts : List Lexeme) → Within (length ts) (read_each (read x) (first x) n ts)
within_each x n ts = within_of_right (Spells (many x)) (Prefix (many x)) ts (read_each (read x) (first x) n ts) (right_each x (right_read x) n ts)

pass_pair : {A B : Type 0} (y : Form B) (n : ℕ) (a : A) (mid : List Lexeme) → length mid ≤ n → Within {A = A × B} n (read y mid >>= λ b. Ok ((a, b.0), b.1))
pass_pair y n a mid le = within_bind n (read y mid) _ (within_more (length mid) n (read y mid) (within_read y mid) le) (λ b more. more)

pass_both : {A B : Type 0} (x : Form A) (y : Form B) (n : ℕ) (r : Outcome A) → Within n r → Within {A = A × B} n (r >>= λ a. read y a.1 >>= λ b. Ok ((a.0, b.0), b.1))
pass_both x y n r h = within_bind n r _ h (λ a le. pass_pair y n a.0 a.1 le)

pass_second : {A B : Type 0} (x : Form A) (y : Form B) (us a b : List Lexeme) (v : A) (rest : List Lexeme)
    → us ≡ a ++ b → read x (a ++ (b ++ rest)) ≡ Ok (v, b ++ rest) → Within (length rest) (read y (b ++ rest)) → Within (length rest) (read (both x y) (us ++ rest))
pass_second x y us a b v rest e f g =
    let whole : us ++ rest ≡ a ++ (b ++ rest) = ap (λ z. z ++ rest) e ∙ append_assoc a b rest in
    rw whole (rw f (within_bind (length rest) (read y (b ++ rest)) _ g (λ w more. more)))

-- a prefix of x y that is a spelling of x with a prefix of y, in which nothing or something is y's
pass_parts : {A B : Type 0} (x : Form A) (y : Form B) (us a b : List Lexeme) (v : A) (rest : List Lexeme)
    → is_predictive (both x y) ≡ true → us ≡ a ++ b → Spells x a v → Prefix y b
    → (Prefix x us → Within (length rest) (read x (us ++ rest))) → Within (length rest) (read y (b ++ rest)) → Within (length rest) (read (both x y) (us ++ rest))
pass_parts x y us a [] v rest h e s f hx hy = pass_both x y (length rest) (read x (us ++ rest)) (hx (subst (Prefix x) (sym (append_nil a) ∙ sym e) (prefix_of_spelling x a v s)))
pass_parts x y us a (u ∷ b) v rest h e s f hx hy =
    pass_second x y us a (u ∷ b) v rest e
    (complete x (predictive_left x y h) a v (u ∷ b ++ rest) s (apart_among_left (after x) (first y) u.kind (predictive_apart x y h) (first_of_prefix y u b f)))
    hy

-- where the last value of several is begun
pass_last : {A : Type 0} (x : Form A) (n : ℕ) (us rest : List Lexeme)
    → (Prefix x us → Within (length rest) (read x (us ++ rest))) → length (us ++ rest) ≤ n → Prefix x us → Within (length rest) (read_each (read x) (first x) n (us ++ rest))
pass_last x n [] rest h le f = within_each x n rest
pass_last x zero (u ∷ us) rest h le f = absurd (omega arith)
pass_last x (suc n) (u ∷ us) rest h le f =
    rw (first_of_prefix x u us f) (within_bind (length rest) (read x (u ∷ us ++ rest)) _ (h f) (λ a more.
    within_bind (length rest) (read_each (read x) (first x) n a.1) _ (within_more (length a.1) (length rest) (read_each (read x) (first x) n a.1) (within_each x n a.1) more) (λ b less. less)))

pass_each_step : {A : Type 0} (x : Form A) (n : ℕ) (us a b : List Lexeme) (v : A) (rest : List Lexeme)
    → us ≡ a ++ b → is_next (first x) (a ++ (b ++ rest)) ≡ true → read x (a ++ (b ++ rest)) ≡ Ok (v, b ++ rest) → Within (length rest) (read_each (read x) (first x) n (b ++ rest)) → Within (length rest) (read_each (read x) (first x) (suc n) (us ++ rest))
pass_each_step x n us a b v rest e p f g =
    let whole : us ++ rest ≡ a ++ (b ++ rest) = ap (λ z. z ++ rest) e ∙ append_assoc a b rest in
    rw whole (rw p (rw f (within_bind (length rest) (read_each (read x) (first x) n (b ++ rest)) _ g (λ w more. more))))

pub record Repeated {A : Type 0} (x : Form A) : Type 0 where
  pub each : is_predictive x ≡ true
  pub filled : is_nullable x ≡ false
  pub apart : are_apart (after x) (first x) ≡ true

repeated : {A : Type 0} (x : Form A) → is_predictive (many x) ≡ true → Repeated x
repeated x h =
    let tests = (and_parts (is_predictive x) _ h).1 in
    record { each = (and_parts _ _ h).0; filled = not_true _ (and_parts _ _ tests).0; apart = (and_parts (not (is_nullable x)) _ tests).1 }

-- a value of several, with others behind it or as the last one
pass_next : {A : Type 0} (x : Form A) → Repeated x → (n : ℕ) (us a b : List Lexeme) (v : A) (rest : List Lexeme)
    → length (us ++ rest) ≤ suc n → us ≡ a ++ b → Spells x a v → Prefix (many x) b
    → (Prefix x us → Within (length rest) (read x (us ++ rest)))
    → (length (b ++ rest) ≤ n → Within (length rest) (read_each (read x) (first x) n (b ++ rest)))
    → Within (length rest) (read_each (read x) (first x) (suc n) (us ++ rest))
pass_next x c n us a [] v rest le e s f hx hy = pass_last x (suc n) us rest hx le (subst (Prefix x) (sym (append_nil a) ∙ sym e) (prefix_of_spelling x a v s))
pass_next x c n us a (u ∷ b) v rest le e s f hx hy =
    let more = length_of_spelling x a v c.filled s in
    let shorter : length (u ∷ b ++ rest) ≤ n = omega (arith, ap length e, length-append a (u ∷ b), length-append us rest, length-append b rest) in
    pass_each_step x n us a (u ∷ b) v rest e
    (spelled_next x a v (u ∷ b ++ rest) c.filled s)
    (complete x c.each a v (u ∷ b ++ rest) s (apart_among_left (after x) (first x) u.kind c.apart (first_of_prefix (many x) u b f)))
    (hy shorter)

pass_each : {A : Type 0} (x : Form A) → Repeated x → ((us rest : List Lexeme) → Prefix x us → Within (length rest) (read x (us ++ rest)))
    → (n : ℕ) (us a b : List Lexeme) (vs : List A) (rest : List Lexeme) → length (us ++ rest) ≤ n → us ≡ a ++ b → SpellsEach (Spells x) a vs → Prefix x b → Within (length rest) (read_each (read x) (first x) n (us ++ rest))
pass_each x c h n us a b [] rest le e s f = pass_last x n us rest (h us rest) le (subst (Prefix x) (sym (e ∙ ap (λ z. z ++ b) s)) f)
pass_each x c h zero us a b (v ∷ vs) rest le e s f =
    let more = length_of_spelling x s.0 v c.filled s.3 in
    absurd (omega (arith, ap length e, ap length s.2, length-append s.0 s.1, length-append a b, length-append us rest))
pass_each x c h (suc n) us a b (v ∷ vs) rest le e s f =
    pass_next x c n us s.0 (s.1 ++ b) v rest le (e ∙ ap (λ z. z ++ b) s.2 ∙ append_assoc s.0 s.1 b) s.3 (s.1, b, vs, refl, s.4, f) (h us rest)
    (λ less. pass_each x c h n (s.1 ++ b) s.1 b vs rest less refl s.4 f)

-- no reading stops within a prefix
pub pass : {A : Type 0} (x : Form A) → is_predictive x ≡ true → (us rest : List Lexeme) → Prefix x us → Within (length rest) (read x (us ++ rest))
pass (one kinds) h us rest f = elim f [
  | inl e ↦ rw e (within_read (one kinds) rest)
  | inr p ↦ rw p.1 (rw p.2 (omega arith))
]
pass (both x y) h us rest f = elim f [
  | inl p ↦ pass_both x y (length rest) (read x (us ++ rest)) (pass x (predictive_left x y h) us rest p)
  | inr p ↦ pass_parts x y us p.0 p.1 p.2 rest h p.3 p.4 p.5 (pass x (predictive_left x y h) us rest) (pass y (predictive_right x y h) p.1 rest p.5)
]
pass (either x y) h us rest f =
    let c = choice x y h in
    elim f [
      | inl p ↦ elim (next_of_prefix x us p) [
        | inl e ↦ rw e (within_read (either x y) rest)
        | inr q ↦ rw (next_append (first x) us rest q) (pass x c.left us rest p)
      ]
      | inr p ↦ elim (next_of_prefix y us p) [
        | inl e ↦ rw e (within_read (either x y) rest)
        | inr q ↦ rw (next_apart (first x) (first y) (us ++ rest) c.apart (next_append (first y) us rest q)) (pass y c.right us rest p)
      ]
    ]
pass (option x) h us rest f = elim (next_of_prefix x us f) [
  | inl e ↦ rw e (within_read (option x) rest)
  | inr q ↦ rw (next_append (first x) us rest q) (within_bind (length rest) (read x (us ++ rest)) _ (pass x (and_parts _ _ h).0 us rest f) (λ a more. more))
]
pass (many x) h us rest f =
    let c = repeated x h in
    pass_each x c (pass x c.each) (length (us ++ rest)) us f.0 f.1 f.2 rest (omega arith) f.3 f.4 f.5
pass (as_value g x) h us rest f = within_bind (length rest) (read x (us ++ rest)) _ (pass x h us rest f) (λ a more. more)

-- Each prefix of a prefix is a prefix

-- where one text is cut twice, one cut stands within the part before the other
cuts : (us vs a b : List Lexeme) → us ++ vs ≡ a ++ b → ((c : List Lexeme) × (a ≡ us ++ c)) ⊎ ((c : List Lexeme) × (us ≡ a ++ c) × (b ≡ c ++ vs))
cuts [] vs a b e = inl (a, refl)
cuts (u ∷ us) vs [] b e = inr (u ∷ us, refl, sym e)
cuts (u ∷ us) vs (w ∷ a) b e =
    let head : u ≡ w = cc in
    let tail : us ++ vs ≡ a ++ b = cc in
    elim (cuts us vs a b tail) [
      | inl p ↦ inl (p.0, ap₂ (λ (z : Lexeme) (zs : List Lexeme). z ∷ zs) (sym head) p.1)
      | inr p ↦ inr (p.0, ap₂ (λ (z : Lexeme) (zs : List Lexeme). z ∷ zs) head p.1, p.2)
    ]

prefix_one : (kinds : List Kind) (us vs : List Lexeme) → Prefix (one kinds) (us ++ vs) → Prefix (one kinds) us
prefix_one kinds [] vs f = inl refl
prefix_one kinds (u ∷ us) vs f = elim f [
  | inl e ↦ cc e
  | inr p ↦ (let head : p.0 ≡ u = cc (p.1) in let tail : [] ≡ us ++ vs = cc (p.1) in
      inr (u, ap (λ z. u ∷ z) (nil_parts us vs tail).0, subst (λ (z : Lexeme). is_among kinds z.kind ≡ true) head p.2))
]

prefix_each : {A : Type 0} (x : Form A) → ((us vs : List Lexeme) → Prefix x (us ++ vs) → Prefix x us)
    → (values : List A) (a us c : List Lexeme) → SpellsEach (Spells x) a values → a ≡ us ++ c → Prefix (many x) us
prefix_each x h [] a us c s e = subst (Prefix (many x)) (sym (nil_parts us c (sym s ∙ e)).0) (prefix_nil (many x))
prefix_each x h (v ∷ values) a us c s e = elim (cuts us c s.0 s.1 (sym e ∙ s.2)) [
  | inl p ↦ ([], us, [], refl, refl, h us p.0 (subst (Prefix x) p.1 (prefix_of_spelling x s.0 v s.3)))
  | inr p ↦ (let more = prefix_each x h values s.1 p.0 c s.4 p.2 in
      (s.0 ++ more.0, more.1, v ∷ more.2, p.1 ∙ ap (λ z. s.0 ++ z) more.3 ∙ sym (append_assoc s.0 more.0 more.1), (s.0, more.0, refl, s.3, more.4), more.5))
]

pub prefix_of_prefix : {A : Type 0} (x : Form A) (us vs : List Lexeme) → Prefix x (us ++ vs) → Prefix x us
prefix_of_prefix (one kinds) us vs f = prefix_one kinds us vs f
prefix_of_prefix (both x y) us vs f = elim f [
  | inl p ↦ inl (prefix_of_prefix x us vs p)
  | inr p ↦ elim (cuts us vs p.0 p.1 p.3) [
    | inl q ↦ inl (prefix_of_prefix x us q.0 (subst (Prefix x) q.1 (prefix_of_spelling x p.0 p.2 p.4)))
    | inr q ↦ inr (p.0, q.0, p.2, q.1, p.4, prefix_of_prefix y q.0 vs (subst (Prefix y) q.2 p.5))
  ]
]
prefix_of_prefix (either x y) us vs f = elim f [ inl p ↦ inl (prefix_of_prefix x us vs p) | inr p ↦ inr (prefix_of_prefix y us vs p) ]
prefix_of_prefix (option x) us vs f = prefix_of_prefix x us vs f
prefix_of_prefix (many x) us vs f = elim (cuts us vs f.0 f.1 f.3) [
  | inl q ↦ prefix_each x (prefix_of_prefix x) f.2 f.0 us q.0 f.4 q.1
  | inr q ↦ (f.0, q.0, f.2, q.1, f.4, prefix_of_prefix x q.0 vs (subst (Prefix x) q.2 f.5))
]
prefix_of_prefix (as_value g x) us vs f = prefix_of_prefix x us vs f

-- What reading gives

-- where reading stops is a fault, unless it is the end behind a spelling
stuck_of_within : {A : Type 0} (x : Form A) → is_predictive x ≡ true → (ts us rest : List Lexeme) → ts ≡ us ++ rest → (r : Outcome A) → read x ts ≡ r → ((n : ℕ) → Within n r → length rest ≤ n) → IsStuck x us rest
stuck_of_within x h ts us [] e r is least = tt
stuck_of_within x h ts us (t ∷ rest) e r is least = λ f.
    let split : ts ≡ (us ++ t ∷ []) ++ rest = e ∙ sym (append_assoc us (t ∷ []) rest) in
    let passed : Within (length rest) (read x ((us ++ t ∷ []) ++ rest)) = pass x h (us ++ t ∷ []) rest f in
    let there : Within (length rest) r = subst (Within (length rest)) is (subst (λ z. Within (length rest) (read x z)) (sym split) passed) in
    absurd (omega (arith, least (length rest) there))

pub fault_of_err : {A : Type 0} (x : Form A) → is_predictive x ≡ true → (ts rest : List Lexeme) → read x ts ≡ Err rest → IsFault x ts rest
fault_of_err {A} x h ts rest e =
    let right : Right (Spells x) (Prefix x) ts (Err rest) = subst (Right (Spells x) (Prefix x) ts) e (right_read x ts) in
    (right.0, right.1, λ us vs d. prefix_of_prefix x us vs (subst (Prefix x) d right.2), stuck_of_within x h ts right.0 rest right.1 (Err rest) e (λ n w. w))

pub fault_of_rest : {A : Type 0} (x : Form A) → is_predictive x ≡ true → (ts : List Lexeme) (v : A) (rest : List Lexeme) → read x ts ≡ Ok (v, rest) → IsFault x ts rest
fault_of_rest {A} x h ts v rest e =
    let right : Right (Spells x) (Prefix x) ts (Ok (v, rest)) = subst (Right (Spells x) (Prefix x) ts) e (right_read x ts) in
    (right.0, right.1, λ us vs d. prefix_of_prefix x us vs (subst (Prefix x) d (prefix_of_spelling x right.0 v right.2)), stuck_of_within x h ts right.0 rest right.1 (Ok (v, rest)) e (λ n w. w))

pub spelled_of_ok : {A : Type 0} (x : Form A) (ts : List Lexeme) (v : A) → read x ts ≡ Ok (v, []) → Spells x ts v
spelled_of_ok x ts v e =
    let right : Right (Spells x) (Prefix x) ts (Ok (v, [])) = subst (Right (Spells x) (Prefix x) ts) e (right_read x ts) in
    subst (λ z. Spells x z v) (sym (right.1 ∙ append_nil right.0)) right.2

pub ok_of_spelled : {A : Type 0} (x : Form A) → is_predictive x ≡ true → (ts : List Lexeme) (v : A) → Spells x ts v → read x ts ≡ Ok (v, [])
ok_of_spelled x h ts v s = subst (λ z. read x z ≡ Ok (v, [])) (append_nil ts) (complete x h ts v [] s refl)

pub ok_one : {A : Type 0} (r : Outcome A) (a b : A × List Lexeme) → r ≡ Ok a → r ≡ Ok b → a ≡ b
ok_one r a b e f = cc

-- tokens spell one value at most
pub one_spelled : {A : Type 0} (x : Form A) → is_predictive x ≡ true → (ts : List Lexeme) (v w : A) → Spells x ts v → Spells x ts w → v ≡ w
one_spelled {A} x h ts v w s t =
    let pair : (v, []) ≡ (w, []) = ok_one (read x ts) (v, []) (w, []) (ok_of_spelled x h ts v s) (ok_of_spelled x h ts w t) in
    ap (λ (z : A × List Lexeme). z.0) pair

pub none_spelled_of_rest : {A : Type 0} (x : Form A) → is_predictive x ≡ true → (ts : List Lexeme) (v : A) (rest : List Lexeme) → read x ts ≡ Ok (v, rest) → 1 ≤ length rest → (w : A) → Spells x ts w → ⊥
none_spelled_of_rest {A} x h ts v rest e le w s =
    let pair : (v, rest) ≡ (w, []) = ok_one (read x ts) (v, rest) (w, []) e (ok_of_spelled x h ts w s) in
    absurd (omega (arith, ap (λ (z : A × List Lexeme). length z.1) pair))

differs : {A : Type 0} (r : Outcome A) (a : A × List Lexeme) (rest : List Lexeme) → r ≡ Ok a → r ≡ Err rest → ⊥
differs r a rest e f = cc

pub none_spelled_of_err : {A : Type 0} (x : Form A) → is_predictive x ≡ true → (ts rest : List Lexeme) → read x ts ≡ Err rest → (w : A) → Spells x ts w → ⊥
none_spelled_of_err x h ts rest e w s = differs (read x ts) (w, []) rest (ok_of_spelled x h ts w s) e
