-- What the forms around a form need to know of it, so that one token tells how to go on in them.
use Rattle.std.proofs.{lemmas.Bool.{or_right, or_left}, Common.{◌≡◌, Bool, true, false, not, ◌&&◌, ◌⊎◌, inl, inr, List, [], ◌∷◌, ◌++◌, refl, eq-eqb}}
use Rattle.fb_grammar.specs.{declared.kind.Kind.{Kind}, Kind.{is_among, same_kind, code_of}, Form.{Form, either}}
use Rattle.fb_grammar.specs.Reading.{is_nullable, is_predictive, first, after, are_apart}
use Rattle.fb_grammar.proofs.Forms.{apart_among, or_cases}

-- a form that is closed by its last token: what begins it, and that nothing goes on behind it
pub record Closed {A : Type 0} (x : Form A) (firsts : List Kind) : Type 0 where
  pub predictive : is_predictive x ≡ true
  pub filled : is_nullable x ≡ false
  pub first : first x ≡ firsts
  pub after : after x ≡ []

abbrev pub IsWithin : List Kind → List Kind → Type 0
IsWithin kinds others = (k : Kind) → is_among kinds k ≡ true → is_among others k ≡ true

-- any other form that is not empty: what begins it, and what at most goes on behind it
pub record Shape {A : Type 0} (x : Form A) (firsts afters : List Kind) : Type 0 where
  pub predictive : is_predictive x ≡ true
  pub filled : is_nullable x ≡ false
  pub first : first x ≡ firsts
  pub after : IsWithin (after x) afters

not_false : (a : Bool) → a ≡ false → not a ≡ true
not_false true h = cc
not_false false h = refl

and_both : (a b : Bool) → a ≡ true → b ≡ true → (a && b) ≡ true
and_both true b p q = q
and_both false b p q = cc

pub same_code : (k : Kind) → same_kind k k ≡ true
same_code k = eq-eqb (code_of k) (code_of k) refl

pub among_append : (a b : List Kind) (k : Kind) → is_among (a ++ b) k ≡ true → (is_among a k ≡ true) ⊎ (is_among b k ≡ true)
among_append [] b k h = inr h
among_append (x ∷ a) b k h = elim (or_cases (same_kind x k) (is_among (a ++ b) k) h) [
  | inl p ↦ inl (or_left (same_kind x k) (is_among a k) p)
  | inr p ↦ elim (among_append a b k p) [ inl q ↦ inl (or_right (same_kind x k) (is_among a k) q) | inr q ↦ inr q ]
]

-- what is within a list is apart from what that is apart from
pub apart_within : (a b others : List Kind) → IsWithin a b → are_apart b others ≡ true → are_apart a others ≡ true
apart_within [] b others h p = refl
apart_within (x ∷ a) b others h p =
    and_both (not (is_among others x)) (are_apart a others)
    (not_false (is_among others x) (apart_among b others x p (h x (or_left (same_kind x x) (is_among a x) (same_code x)))))
    (apart_within a b others (λ k q. h k (or_right (same_kind x k) (is_among a k) q)) p)

-- one of two closed forms that begin apart
pub closed_either : {A : Type 0} (x y : Form A) (firsts others : List Kind) → Closed x firsts → Closed y others → are_apart firsts others ≡ true → Closed (either x y) (firsts ++ others)
closed_either x y firsts others c d apart =
    record {
      predictive = rw (c.predictive, d.predictive, c.first, d.first, c.filled, d.filled) (rw apart refl);
      filled = rw (c.filled, d.filled) refl;
      first = rw (c.first, d.first) refl;
      after = rw (c.after, d.after) refl;
    }
