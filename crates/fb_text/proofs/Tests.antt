-- Laws of tests that std does not have.
use Rattle.std.proofs.{Common.{◌≡◌, Bool, true, false, ◌||◌, ◌&&◌, not, refl, sym, ◌∙◌, arith}, lemmas.Bool.{false≢true}}

pub by_bool : {P : Type 0} (b : Bool) → (b ≡ true → P) → (b ≡ false → P) → P
by_bool true t f = t refl
by_bool false t f = f refl

pub or_cases : {P : Type 0} (a b : Bool) → (a || b) ≡ true → (a ≡ true → P) → (b ≡ true → P) → P
or_cases true b e l r = l refl
or_cases false b e l r = r e

pub or_assoc : (a b c : Bool) → (a || (b || c)) ≡ ((a || b) || c)
or_assoc a b c = grind arith

pub or_false : (a : Bool) → (a || false) ≡ a
or_false a = grind arith

pub or_true : (a : Bool) → (a || true) ≡ true
or_true a = grind arith

pub and_false : (a : Bool) → (a && false) ≡ false
and_false a = grind arith

pub and_true : (a : Bool) → (a && true) ≡ a
and_true a = grind arith

pub no_both : {P : Type 0} (b : Bool) → b ≡ true → b ≡ false → P
no_both b t f = absurd (false≢true (sym f ∙ t))

pub not_true : (b : Bool) → not b ≡ true → b ≡ false
not_true b e = grind arith

pub not_false : (b : Bool) → not b ≡ false → b ≡ true
not_false b e = grind arith
