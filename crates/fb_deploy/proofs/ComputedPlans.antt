-- What is computed is the plan of the system.
use Rattle.std.proofs.{Common.{◌≡◌, ℕ, Bool, true, false, if◌then◌else◌, List, Option, Some, None, refl, sym, ap, subst, ◌∙◌}, lemmas.Bool.{false≢true}}
use Rattle.std.specs.Prelude.{◌↔◌, IsTrue, is_some, option_map}
use Rattle.fb_mapping.specs.Tree.Tree.{DeclTree, block_type, adapter_type, subapplication_type, system_configuration, structure_type}
use Rattle.fb_mapping.specs.{Library.View.{Sources, tree_at}, Flatten.Net.{PlainNet}, Flatten.Nets.{net_at, net_in, net_of_tree}}
use Rattle.fb_mapping.specs.{Flatten.Tables.{is_system_tree}, Placed.{IsSystem}}
use Rattle.fb_mapping.proofs.{Flatten.ComputedNets.{net_at_is, net_at_local}, KindLemmas.{no_system, system_kind}}
use Rattle.fb_mapping.proofs.Placing.ResolvedLocal.{own_tree, same_instances}
use Rattle.fb_deploy.specs.{Deploy.{PlainDeploy, IsPlan, planned_by}, Plans.{HasPlanByText, PlanAtIsLocal, PlanAtIsPlan, PlanAtOfSystems, has_plan_in, plan_at}}
use Rattle.fb_deploy.proofs.PlanLocal.{one_plan_only, planned_same}

-- whether there is a plan is told by the tree
pub has_by_text : HasPlanByText
has_by_text sources unit = by (tree_at sources unit) refl
  where
    by : (o : Option DeclTree) → tree_at sources unit ≡ o → (has_plan_in o ≡ true) ↔ IsSystem sources unit
    by None e = no_system sources unit e
    by (Some tree) e = system_kind sources unit tree (is_system_tree tree) e refl

module _ (sources : Sources) (unit : List ℕ) where
  -- a system has a net
  net_there : (tree : DeclTree) → tree_at sources unit ≡ Some tree → is_system_tree tree ≡ true → net_at sources unit ≡ Some (net_of_tree sources unit tree)
  unfolding net_at
  net_there (block_type d) present is = absurd (false≢true is)
  net_there (adapter_type d) present is = absurd (false≢true is)
  net_there (subapplication_type d) present is = absurd (false≢true is)
  net_there (system_configuration s) present is = ap (net_in sources unit) present
  net_there (structure_type s) present is = absurd (false≢true is)

  -- the computed plan of a system
  record Computed : Type 0 where
    pub plan : PlainDeploy
    pub at : plan_at sources unit ≡ Some plan
    pub is : IsPlan sources unit plan

  computed : IsSystem sources unit → Computed
  unfolding plan_at
  computed system = by_tree (tree_at sources unit) refl ((has_by_text sources unit).1 system)
    where
      by_tree : (o : Option DeclTree) → tree_at sources unit ≡ o → has_plan_in (tree_at sources unit) ≡ true → Computed
      by_tree None e has = absurd (false≢true (sym (ap has_plan_in e) ∙ has))
      by_tree (Some tree) e has =
          let net = net_of_tree sources unit tree in
          let there = net_there tree e (sym (ap has_plan_in e) ∙ has) in
          record {
            plan = planned_by sources unit net;
            at =
                ap (λ (b : Bool). if b then option_map (planned_by sources unit) (net_at sources unit) else None) has
                ∙ ap (λ (o : Option PlainNet). option_map (planned_by sources unit) o) there;
            is = record { net = net; is_net = ((net_at_is sources unit net).0 there).1; plan_is = refl };
          }

  system_of : (b : Bool) (plan : PlainDeploy) → has_plan_in (tree_at sources unit) ≡ b → (if b then option_map (planned_by sources unit) (net_at sources unit) else None) ≡ Some plan → IsSystem sources unit
  system_of true plan e at = (has_by_text sources unit).0 e
  system_of false plan e at = absurd (let no : ⊥ = cc in no)

  computed_is : (plan : PlainDeploy) → plan_at sources unit ≡ Some plan → IsSystem sources unit × IsPlan sources unit plan
  unfolding plan_at
  computed_is plan at =
      let system = system_of (has_plan_in (tree_at sources unit)) plan refl at in
      let c = computed system in
      let there = c.at in
      let same : c.plan ≡ plan = cc in
      (system, subst (IsPlan sources unit) same c.is)

  is_computed : (plan : PlainDeploy) → IsSystem sources unit → IsPlan sources unit plan → plan_at sources unit ≡ Some plan
  is_computed plan system is = let c = computed system in c.at ∙ ap (λ p. Some p) (one_plan_only sources unit c.plan plan c.is is)

  some_of : (o : Option PlainDeploy) → plan_at sources unit ≡ o → IsTrue (is_some o) → IsSystem sources unit
  some_of None e t = absurd (false≢true t)
  some_of (Some plan) e t = (computed_is plan e).0

pub plan_at_is : PlanAtIsPlan
plan_at_is sources unit plan = (computed_is sources unit plan, λ h. is_computed sources unit plan h.0 h.1)

pub plan_at_of : PlanAtOfSystems
plan_at_of sources unit = (some_of sources unit (plan_at sources unit) refl, λ system. ap (λ (o : Option PlainDeploy). is_some o) (computed sources unit system).at)

-- the plan of a system whose net this is
pub plan_by : (sources : Sources) (unit : List ℕ) (net : PlainNet) → IsSystem sources unit → net_at sources unit ≡ Some net → plan_at sources unit ≡ Some (planned_by sources unit net)
unfolding plan_at
plan_by sources unit net system there =
    ap (λ (b : Bool). if b then option_map (planned_by sources unit) (net_at sources unit) else None) ((has_by_text sources unit).1 system)
    ∙ ap (λ (o : Option PlainNet). option_map (planned_by sources unit) o) there

pub plan_at_local : PlanAtIsLocal
unfolding plan_at
plan_at_local a b unit agree =
    ap (λ (n : Option PlainNet). if has_plan_in (tree_at a unit) then option_map (planned_by a unit) n else None) (net_at_local a b unit agree)
    ∙ ap (λ (f : PlainNet → PlainDeploy). if has_plan_in (tree_at a unit) then option_map f (net_at b unit) else None) (λ i net. planned_same a b unit (same_instances a b unit agree) net i)
    ∙ ap (λ (t : Option DeclTree). if has_plan_in t then option_map (planned_by b unit) (net_at b unit) else None) (own_tree a b unit (same_instances a b unit agree))
