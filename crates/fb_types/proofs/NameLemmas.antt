-- Names among names, and tests.
use Rattle.std.proofs.Common.{◌≡◌, ℕ, Bool, true, false, ◌||◌, List, refl, arith}
use Rattle.std.specs.{Bool.{OnFalse}, Cmp.{eq_by_cmp_equiv}, Cmp.Lexicographic.{nat_list_cmp_total}}
use Rattle.fb_tree.proofs.Text.Tests.{no_both}
use Rattle.fb_iface.proofs.Library.SeenLemmas.{same}

pub on_false : {P : Type 0} (b : Bool) → b ≡ false → OnFalse b P → P
on_false true f h = no_both true refl f
on_false false f h = h

pub or_none : (a b : Bool) → a ≡ false → b ≡ false → (a || b) ≡ false
or_none a b e f = grind arith

pub or_none_left : (a b : Bool) → (a || b) ≡ false → a ≡ false
or_none_left a b e = grind arith

pub or_none_right : (a b : Bool) → (a || b) ≡ false → b ≡ false
or_none_right a b e = grind arith

pub or_under : (a b c : Bool) → (a || (b || c)) ≡ ((b || a) || c)
or_under a b c = grind arith

pub same_swap : (x y : List ℕ) → same x y ≡ same y x
same_swap = (eq_by_cmp_equiv nat_list_cmp_total).symm
