-- The faults of a unit's chart depend on the texts of the unit and of its parts alone.
use Rattle.std.proofs.Common.{◌≡◌, ℕ, List, Option, Some, None, refl, ap, ◌∙◌}
use Rattle.std.specs.{FinMap.{get}, List.{Contains}, Option.{option_and_then}}
use Rattle.fb_tree.specs.{Mentions.{types_in}, Tree.{DeclTree, block_type, adapter_type, subapplication_type, system_configuration, structure_type}}
use Rattle.fb_iface.specs.Library.View.{Sources, parts_in, tree_at, tree_of}
use Rattle.fb_iface.proofs.{Library.Locality.{near_part, near_unit}, ScopeLocal.{in_order_has, scope_local}}
use Rattle.fb_ecc.specs.{Charts.{chart_faults, chart_faults_in}, Local.{EccIsLocal}}

chart_local : (a b : Sources) (tree : Option DeclTree) → ((name : List ℕ) → Contains (parts_in tree) name → get a name ≡ get b name) → chart_faults_in a tree ≡ chart_faults_in b tree
chart_local a b None agree = refl
chart_local a b (Some (block_type d)) agree =
    ap (λ scope. chart_faults scope d.chart) (scope_local a b d (λ name h. agree name (in_order_has (types_in d.network.instances) name h)))
chart_local a b (Some (adapter_type d)) agree = refl
chart_local a b (Some (subapplication_type d)) agree = refl
chart_local a b (Some (system_configuration s)) agree = refl
chart_local a b (Some (structure_type s)) agree = refl

pub ecc_local : EccIsLocal
ecc_local a b unit agree =
    chart_local a b (tree_at a unit) (λ name h. agree name (near_part a unit name h))
    ∙ ap (λ o. chart_faults_in b (option_and_then tree_of o)) (agree unit (near_unit a unit))
