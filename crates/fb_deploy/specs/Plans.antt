-- The plan of a unit, computed from the texts.
use Rattle.std.specs.Prelude.{◌≡◌, ◌↔◌, ℕ, Bool, true, if◌then◌else◌, IsTrue, List, Option, Some, None, is_some, option_map}
use Rattle.fb_mapping.specs.{Tree.Tree.{DeclTree}, Library.View.{Sources, tree_at}, Library.Local.{AgreeFar}, Flatten.Hints.{is_whole_net}}
use Rattle.fb_mapping.specs.{Flatten.Unchanged.{LeavesNet}, Flatten.Nets.{net_at}, Flatten.Tables.{is_system_in}, Placed.{IsSystem}}
use Rattle.fb_deploy.specs.Deploy.{PlainDeploy, stopped, faulty, planned, IsPlan, planned_by}

-- whether a unit with this tree, or with none, has a plan
abbrev pub has_plan_in : Option DeclTree → Bool
has_plan_in tree = is_system_in tree

abbrev pub plan_in : Sources → List ℕ → Option DeclTree → Option PlainDeploy
plan_in sources unit tree = if has_plan_in tree then option_map (planned_by sources unit) (net_at sources unit) else None

-- the plan of a system; other units have none
unfoldable pub plan_at : Sources → List ℕ → Option PlainDeploy
plan_at sources unit = plan_in sources unit (tree_at sources unit)

-- whether a unit is a system, and so has a plan, is known from its own text
abbrev pub HasPlanByText : Type 0
HasPlanByText = (sources : Sources) (unit : List ℕ) → (has_plan_in (tree_at sources unit) ≡ true) ↔ IsSystem sources unit

-- systems have a plan, and nothing else has one
abbrev pub PlanAtOfSystems : Type 0
PlanAtOfSystems = (sources : Sources) (unit : List ℕ) → IsTrue (is_some (plan_at sources unit)) ↔ IsSystem sources unit

-- the plan is the one plan of the system
abbrev pub PlanAtIsPlan : Type 0
PlanAtIsPlan = (sources : Sources) (unit : List ℕ) (plan : PlainDeploy) → (plan_at sources unit ≡ Some plan) ↔ (IsSystem sources unit × IsPlan sources unit plan)

-- the plan depends only on the texts that the unit rests on
abbrev pub PlanAtIsLocal : Type 0
PlanAtIsLocal = (a b : Sources) (unit : List ℕ) → AgreeFar unit a b → plan_at a unit ≡ plan_at b unit

-- whether a plan comes from a net that nothing blocked and in which no type reaches itself
abbrev pub is_whole_plan : PlainDeploy → Bool
is_whole_plan (stopped net) = is_whole_net net
is_whole_plan (faulty found) = true
is_whole_plan (planned cuts resources) = true

-- texts that leave the net of a unit unchanged leave its plan unchanged
abbrev pub PlanIsUnchanged : Type 0
PlanIsUnchanged =
    (before now : Sources) (unit : List ℕ) (plan : PlainDeploy)
    → LeavesNet before now unit → is_whole_plan plan ≡ true → plan_at before unit ≡ Some plan → plan_at now unit ≡ Some plan
