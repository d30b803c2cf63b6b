-- Systems are told by the kind of their trees.
use Rattle.std.proofs.Common.{ℕ, ◌≡◌, Bool, true, false, List, Some, None, ap}
use Rattle.std.specs.Prelude.{◌↔◌, option_map}
use Rattle.fb_placing.specs.Tree.Mentions.{unit_kind_of}
use Rattle.fb_placing.specs.Tree.Tree.{DeclTree, block_type, adapter_type, subapplication_type, system_configuration, structure_type}
use Rattle.fb_placing.specs.Tree.declared.kinds.UnitKind.{UnitKind}
use Rattle.fb_placing.specs.Tree.declared.kinds.UnitKind.TheVariants as kinds
use Rattle.fb_flatten.specs.{Library.View.{Sources, tree_at}, Wiring.ByName.{kind_at}, Tables.{is_system_tree}}
use Rattle.fb_mapping.specs.Placed.{IsSystem}

other_kind : (sources : Sources) (unit : List ℕ) (kind : UnitKind) → kind_at sources unit ≡ Some kind → (kind ≡ kinds.System → ⊥) → IsSystem sources unit → ⊥
other_kind sources unit kind is other system = other (let same : kind ≡ kinds.System = cc in same)

pub system_kind : (sources : Sources) (unit : List ℕ) (tree : DeclTree) (b : Bool) → tree_at sources unit ≡ Some tree → b ≡ is_system_tree tree → (b ≡ true) ↔ IsSystem sources unit
system_kind sources unit (block_type d) b present e = (λ t. absurd (let no : ⊥ = cc in no), λ h. absurd (other_kind sources unit kinds.Block (ap (option_map unit_kind_of) present) (λ s. let no : ⊥ = cc in no) h))
system_kind sources unit (adapter_type d) b present e = (λ t. absurd (let no : ⊥ = cc in no), λ h. absurd (other_kind sources unit kinds.Adapter (ap (option_map unit_kind_of) present) (λ s. let no : ⊥ = cc in no) h))
system_kind sources unit (subapplication_type d) b present e = (λ t. absurd (let no : ⊥ = cc in no), λ h. absurd (other_kind sources unit kinds.Subapplication (ap (option_map unit_kind_of) present) (λ s. let no : ⊥ = cc in no) h))
system_kind sources unit (system_configuration s) b present e = (λ t. ap (option_map unit_kind_of) present, λ h. e)
system_kind sources unit (structure_type s) b present e = (λ t. absurd (let no : ⊥ = cc in no), λ h. absurd (other_kind sources unit kinds.Structure (ap (option_map unit_kind_of) present) (λ s. let no : ⊥ = cc in no) h))

pub no_system : (sources : Sources) (unit : List ℕ) → tree_at sources unit ≡ None → (false ≡ true) ↔ IsSystem sources unit
no_system sources unit absent = (λ t. absurd (let no : ⊥ = cc in no), λ h. absurd (let kind = ap (option_map unit_kind_of) absent in let no : ⊥ = cc in no))
