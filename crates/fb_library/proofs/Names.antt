-- The order of names.
use Rattle.std.proofs.Common.{◌≡◌, ℕ, List, refl}
use Rattle.std.specs.{Cmp.{IsTotalOrder}, Cmp.Lexicographic.{nat_list_cmp_total}}
use Rattle.std.specs.{declared.cmp.Ordering.{Ordering}, declared.cmp.Ordering.TheVariants.{Less, Equal, Greater}}
use Rattle.std.specs.FinMap.{slice_cmp-IsAntisymmetric, nat_cmp-IsAntisymmetric}
use Rattle.fb_parse.specs.Text.Order.{name_cmp}

pub name_total : IsTotalOrder name_cmp
name_total = nat_list_cmp_total

pub exact_name : (x y : List ℕ) → name_cmp x y ≡ Equal → x ≡ y
exact_name x y e = slice_cmp-IsAntisymmetric nat_cmp-IsAntisymmetric x y e

-- the three answers of an order
pub by_order : {P : Type 0} (r : Ordering) → (r ≡ Less → P) → (r ≡ Equal → P) → (r ≡ Greater → P) → P
by_order Less l e g = l refl
by_order Equal l e g = e refl
by_order Greater l e g = g refl
