-- The faults of expressions depend on the texts of what is near the unit alone.
use Rattle.std.proofs.Common.{◌≡◌, ℕ, List, Option, Some, None, refl, ap, ◌∙◌}
use Rattle.std.specs.{FinMap.{get}, List.{Contains}, Option.{option_and_then}}
use Rattle.fb_tree.specs.{Mentions.{types_in}, Tree.{DeclTree, block_type, adapter_type, subapplication_type, system_configuration, structure_type}}
use Rattle.fb_iface.specs.{Fields.{fields_near}, Library.View.{Sources, parts_in, tree_at, tree_of}}
use Rattle.fb_iface.proofs.{FieldsLocal.{fields_local}, Library.Locality.{near_part, near_unit}, ScopeLocal.{in_order_has, scope_local}}
use Rattle.fb_expr.specs.Charts.{ExprFaultsAreLocal, expression_faults, faults_in_unit}

declared_local : (a b : Sources) (unit : List ℕ) (tree : Option DeclTree) → ((name : List ℕ) → Contains (parts_in tree) name → get a name ≡ get b name) → fields_near a unit ≡ fields_near b unit → faults_in_unit a unit tree ≡ faults_in_unit b unit tree
declared_local a b unit None agree fields = refl
declared_local a b unit (Some (block_type d)) agree fields =
    let scopes = scope_local a b d (λ name h. agree name (in_order_has (types_in d.network.instances) name h)) in
    λ i. expression_faults (record { scope = scopes i; fields = fields i }) d.chart
declared_local a b unit (Some (adapter_type d)) agree fields = refl
declared_local a b unit (Some (subapplication_type d)) agree fields = refl
declared_local a b unit (Some (system_configuration s)) agree fields = refl
declared_local a b unit (Some (structure_type s)) agree fields = refl

pub expr_faults_local : ExprFaultsAreLocal
expr_faults_local a b unit agree =
    declared_local a b unit (tree_at a unit) (λ name h. agree name (near_part a unit name h)) (fields_local a b unit agree)
    ∙ ap (λ text. faults_in_unit b unit (option_and_then tree_of text)) (agree unit (near_unit a unit))
