-- Laws of plans.
use Rattle.std.specs.Prelude.{ℕ, ◌≡◌, List}
use Rattle.fb_mapping.specs.{Library.View.{Sources}, Library.Local.{AgreeFar}}
use Rattle.fb_deploy.specs.Deploy.{PlainDeploy, IsPlan}

-- a system has one plan only
abbrev pub OnePlan : Type 0
OnePlan = (sources : Sources) (system : List ℕ) (a b : PlainDeploy) → IsPlan sources system a → IsPlan sources system b → a ≡ b

-- the plan of a system depends only on the texts that the system rests on
abbrev pub PlanIsLocal : Type 0
PlanIsLocal =
    (a b : Sources) (system : List ℕ) → AgreeFar system a b
    → (plan : PlainDeploy) → IsPlan a system plan → IsPlan b system plan
