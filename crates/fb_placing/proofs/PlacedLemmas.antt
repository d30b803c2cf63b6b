-- Commands that compare equal are one.
use Rattle.std.proofs.Common.{ℕ, ◌≡◌, true, List}
use Rattle.std.specs.{declared.cmp.Ordering.TheVariants.{Equal}, FinMap.{IsAntisymmetric, nat_cmp-IsAntisymmetric, slice_cmp-IsAntisymmetric}}
use Rattle.std.specs.Ordering.{eq_by_cmp, ordering_then}
use Rattle.fb_tree.proofs.Text.OrderLemmas.{is_equal, both_equal}
use Rattle.fb_tree.specs.Text.Order.{name_cmp}
use Rattle.fb_placing.specs.{PlacedCommands.{command_cmp}, declared.plan.write_commands.PlacedCommand.{PlacedCommand}}

exact_text : (x y : List ℕ) → name_cmp x y ≡ Equal → x ≡ y
exact_text x y e = slice_cmp-IsAntisymmetric nat_cmp-IsAntisymmetric x y e

same_lines : {a b c d e f : List ℕ} → a ≡ b → c ≡ d → e ≡ f → (let l : PlacedCommand = record { place = a; command = c; resource = e } in l) ≡ record { place = b; command = d; resource = f }
same_lines p q r = λ i. record { place = p i; command = q i; resource = r i }

pub command_cmp-IsAntisymmetric : IsAntisymmetric command_cmp
command_cmp-IsAntisymmetric a b e =
    let first = both_equal (name_cmp a.place b.place) (ordering_then (name_cmp a.command b.command) (name_cmp a.resource b.resource)) e in
    let second = both_equal (name_cmp a.command b.command) (name_cmp a.resource b.resource) first.1 in
    same_lines (exact_text a.place b.place first.0) (exact_text a.command b.command second.0) (exact_text a.resource b.resource second.1)

pub exact_command : (a b : PlacedCommand) → eq_by_cmp command_cmp a b ≡ true → a ≡ b
exact_command a b e = command_cmp-IsAntisymmetric a b (is_equal (command_cmp a b) e)
