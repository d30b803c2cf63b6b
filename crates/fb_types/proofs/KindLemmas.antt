-- Subapplications and systems have nets.
use Rattle.std.proofs.Common.{ℕ, ◌≡◌, Bool, true, false, List, Some, None, arith}
use Rattle.std.specs.Prelude.{◌↔◌}
use Rattle.fb_tree.specs.{Tree.{DeclTree}}
use Rattle.fb_tree.specs.declared.kinds.UnitKind.TheVariants as kinds
use Rattle.fb_iface.specs.Library.View.{Sources, tree_at}
use Rattle.fb_types.specs.{ByName.{kind_at}, Tables.{is_subapplication_in}, Units.{HasNet, has_net_tree}}

pub net_kind : (sources : Sources) (unit : List ℕ) (tree : DeclTree) (b : Bool) → tree_at sources unit ≡ Some tree → b ≡ has_net_tree tree → (b ≡ true) ↔ HasNet sources unit
net_kind sources unit tree b present e = grind arith

pub no_net_kind : (sources : Sources) (unit : List ℕ) → tree_at sources unit ≡ None → (false ≡ true) ↔ HasNet sources unit
no_net_kind sources unit absent = grind arith

-- a subapplication by its tree
pub subapplication_by_tree : (sources : Sources) (unit : List ℕ) → is_subapplication_in (tree_at sources unit) ≡ true → kind_at sources unit ≡ Some kinds.Subapplication
subapplication_by_tree sources unit is = grind arith

-- a subapplication is told by its tree
pub subapplication_told : (sources : Sources) (unit : List ℕ) → kind_at sources unit ≡ Some kinds.Subapplication → is_subapplication_in (tree_at sources unit) ≡ true
subapplication_told sources unit kind = grind arith
