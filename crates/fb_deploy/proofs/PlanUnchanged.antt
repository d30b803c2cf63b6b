-- Texts that leave the net of a system as it was leave its plan so.
use Rattle.std.proofs.Common.{◌≡◌, ℕ, Bool, true, false, if◌then◌else◌, List, [], ◌⊎◌, inl, inr, Option, Some, None, refl, sym, ap, subst, ◌∙◌, option_map, arith}
use Rattle.std.specs.{Prelude.{Contains}, FinMap.{get}, Option.{option_and_then}}
use Rattle.fb_mapping.specs.Tree.Mentions.{unit_kind_of}
use Rattle.fb_mapping.specs.Tree.Tree.{DeclTree, InstanceTree, block_type, adapter_type, subapplication_type, system_configuration, structure_type}
use Rattle.fb_mapping.specs.{Library.View.{Sources, tree_at, tree_of}, Flatten.Hints.{is_whole_net}, Flatten.Unchanged.{LeavesNet}}
use Rattle.fb_mapping.specs.{Flatten.Net.{PlainNet, blocked, recursive, too_large, flat_net}, Flatten.Nets.{net_at}, Flatten.Wiring.Local.{HasSameInterface}}
use Rattle.fb_mapping.specs.{Flatten.Wiring.ByName.{kind_at}, Placing.Resolved.{inner_instances}}
use Rattle.fb_mapping.specs.Tree.declared.kinds.UnitKind.TheVariants as kinds
use Rattle.fb_mapping.proofs.{Flatten.NetUnchanged.{net_left}, Placing.ResolvedLocal.{SameInstances, own_tree}}
use Rattle.fb_deploy.specs.{Deploy.{PlainDeploy, planned_by}, Plans.{PlanIsUnchanged, has_plan_in, is_whole_plan, plan_at}}
use Rattle.fb_deploy.proofs.PlanLocal.{planned_same}

-- nothing stands inside a block type
no_inner : (tree : Option DeclTree) → option_map unit_kind_of tree ≡ Some kinds.Block → inner_instances tree ≡ []
no_inner None e = cc
no_inner (Some (block_type d)) e = refl
no_inner (Some (adapter_type d)) e = cc
no_inner (Some (subapplication_type d)) e = cc
no_inner (Some (system_configuration s)) e = cc
no_inner (Some (structure_type s)) e = cc

contains_nothing : {X : Type 0} (x : X) → Contains [] x → ⊥
contains_nothing x c = omega (arith, c.1)

module _ (a b : Sources) (unit : List ℕ) (leaves : LeavesNet a b unit) where
  inner_same : (v : List ℕ) → (get a v ≡ get b v) ⊎ (kind_at a v ≡ Some kinds.Block) → HasSameInterface (tree_at a v) (tree_at b v) → inner_instances (tree_at a v) ≡ inner_instances (tree_at b v)
  inner_same v (inl e) says = ap (λ (o : Option (List ℕ)). inner_instances (option_and_then tree_of o)) e
  inner_same v (inr block) says = no_inner (tree_at a v) block ∙ sym (no_inner (tree_at b v) (sym says.said.kind ∙ block))

  text_same : (v : List ℕ) (i : InstanceTree) → (get a v ≡ get b v) ⊎ (kind_at a v ≡ Some kinds.Block) → Contains (inner_instances (tree_at a v)) i → get a v ≡ get b v
  text_same v i (inl e) c = e
  text_same v i (inr block) c = absurd (contains_nothing i (subst (λ (is : List InstanceTree). Contains is i) (no_inner (tree_at a v) block) c))

  standings : SameInstances a b unit
  standings = record {
    own = leaves.own;
    instances = λ v r. inner_same v (leaves.still v r).text (leaves.still v r).says;
    texts = λ v i r c. text_same v i (leaves.still v r).text c;
  }

  net_whole : (net : PlainNet) → is_whole_plan (planned_by a unit net) ≡ true → is_whole_net net ≡ true
  net_whole (blocked names) e = e
  net_whole (recursive names) e = e
  net_whole too_large e = refl
  net_whole (flat_net flat) e = refl

  planned_now : (net : PlainNet) → net_at b unit ≡ Some net → has_plan_in (tree_at b unit) ≡ true → plan_at b unit ≡ Some (planned_by b unit net)
  unfolding plan_at
  planned_now net at has =
      ap (λ (h : Bool). if h then option_map (planned_by b unit) (net_at b unit) else None) has
      ∙ ap (λ (o : Option PlainNet). option_map (planned_by b unit) o) at

  by : (plan : PlainDeploy) (h : Bool) (o : Option PlainNet) → has_plan_in (tree_at a unit) ≡ h → net_at a unit ≡ o → is_whole_plan plan ≡ true → (if h then option_map (planned_by a unit) o else None) ≡ Some plan → plan_at b unit ≡ Some plan
  by plan false o has at whole e = cc
  by plan true None has at whole e = cc
  by plan true (Some net) has at whole e =
      let is : planned_by a unit net ≡ plan = cc in
      let now : net_at b unit ≡ Some net = net_left a b unit net leaves (net_whole net (ap is_whole_plan is ∙ whole)) at in
      planned_now net now (ap has_plan_in (sym (own_tree a b unit standings)) ∙ has)
      ∙ ap (λ (p : PlainDeploy). Some p) (sym (planned_same a b unit standings net) ∙ is)

  left : (plan : PlainDeploy) → is_whole_plan plan ≡ true → plan_at a unit ≡ Some plan → plan_at b unit ≡ Some plan
  unfolding plan_at
  left plan whole at = by plan (has_plan_in (tree_at a unit)) (net_at a unit) refl refl whole at

pub plan_left : PlanIsUnchanged
plan_left a b unit plan leaves whole at = left a b unit leaves plan whole at
