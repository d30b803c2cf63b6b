-- The plan of a system: the commands for each of its resources (IEC 61499-1, clause 7: system configurations).
use Rattle.std.specs.Prelude.{ℕ, ◌≡◌, List, Option}
use Rattle.fb_mapping.specs.{Tree.Tree.{DeclTree}, Library.View.{Sources, tree_at}, Network.PlainFlat.{PlainFlat}, Network.declared.flat.Link.{Link}}
use Rattle.fb_mapping.specs.{Flatten.Net.{PlainNet, IsNet, blocked, recursive, too_large, flat_net, plain_net}, Placing.Cuts.{cuts_of, home_at}}
use Rattle.fb_mapping.specs.{Placing.Homes.{PlainHomes, faulty_homes, all_homes, homes_of}, Placing.Systems.{applications_in, devices_in}}
use Rattle.fb_mapping.specs.{Placing.declared.homes.Home.{Home}, Placing.declared.homes.Misplaced.{Misplaced}, Placing.SystemCommands.{system_commands}}
use Rattle.fb_mapping.specs.{Placing.PlainResource.{PlainResource}, Placing.Resources.{resource_plans, resources_of}}
use Rattle.fb_deploy.specs.declared.planning.Deploy.{Deploy}
use Rattle.fb_deploy.specs.declared.planning.Deploy.TheVariants as deploy

-- a plan as a plain value: why there is no flat network, what is misplaced, or cut links and the commands of each resource
pub data PlainDeploy : Type 0 where
  stopped : PlainNet → PlainDeploy
  faulty : List Misplaced → PlainDeploy
  planned : List Link → List PlainResource → PlainDeploy

-- the plan of the program as a plain value, without its place in memory
abbrev pub plain_deploy : Deploy → PlainDeploy
plain_deploy (deploy.Stopped net) = stopped (plain_net net)
plain_deploy (deploy.Faulty found) = faulty found.items
plain_deploy (deploy.Plan plan) = planned plan.cuts plan.resources

abbrev pub tree_plan : Sources → List ℕ → Option DeclTree → PlainFlat → List Home → PlainDeploy
tree_plan sources system tree flat homes =
    planned (cuts_of (home_at homes) flat.links)
    (resource_plans (system_commands sources system (applications_in tree) (resources_of (devices_in tree)) flat homes) (resources_of (devices_in tree)))

abbrev pub with_homes : Sources → List ℕ → PlainFlat → PlainHomes → PlainDeploy
with_homes sources system flat (faulty_homes found) = faulty found
with_homes sources system flat (all_homes homes) = tree_plan sources system (tree_at sources system) flat homes

abbrev pub flat_plan : Sources → List ℕ → PlainFlat → PlainDeploy
flat_plan sources system flat = with_homes sources system flat (homes_of sources system flat.blocks)

-- the plan of a system whose net this is
abbrev pub planned_by : Sources → List ℕ → PlainNet → PlainDeploy
planned_by sources system (blocked names) = stopped (blocked names)
planned_by sources system (recursive names) = stopped (recursive names)
planned_by sources system too_large = stopped too_large
planned_by sources system (flat_net flat) = flat_plan sources system flat

-- the plan of a system: its net if that is not flat, what is misplaced if anything is, or its cut links and the commands of each
-- resource
pub record IsPlan (sources : Sources) (system : List ℕ) (plan : PlainDeploy) : Type 0 where
  pub net : PlainNet
  pub is_net : IsNet sources system net
  pub plan_is : plan ≡ planned_by sources system net
