-- A system has one plan only, and it depends on the texts alone that the system rests on.
use Rattle.std.proofs.Common.{ℕ, ◌≡◌, ◌++◌, List, Option, refl, sym, ◌∙◌, ap, map}
use Rattle.fb_mapping.specs.{Tree.Tree.{DeclTree}, Library.View.{Sources, tree_at}, Library.Local.{AgreeFar}, Network.PlainFlat.{PlainFlat}}
use Rattle.fb_mapping.specs.{Flatten.Net.{PlainNet, blocked, recursive, too_large, flat_net}, Placing.Cuts.{cuts_of, home_at}}
use Rattle.fb_mapping.specs.{Placing.Homes.{PlainHomes, faulty_homes, all_homes, homes_of}, Placing.Systems.{devices_in}, Placing.declared.homes.Home.{Home}}
use Rattle.fb_mapping.specs.{Placing.SystemCommands.{connection_commands, without_place, start_command}, Placing.PlacedCommands.{create_commands}}
use Rattle.fb_mapping.specs.{Placing.Resources.{resource_plans, resources_of}, Placing.declared.plan.write_commands.PlacedCommand.{PlacedCommand}}
use Rattle.fb_mapping.proofs.{Flatten.NetLocality.{net_local}, Flatten.OneNet.{one_net_only}, Placing.HomesLocal.{homes_same}}
use Rattle.fb_mapping.proofs.{Placing.ResolvedLocal.{SameInstances, own_tree, same_instances}, Placing.WritesLocal.{write_commands_same}}
use Rattle.fb_deploy.specs.{Deploy.{planned, planned_by, tree_plan, with_homes}, Laws.{OnePlan, PlanIsLocal}}

pub one_plan_only : OnePlan
one_plan_only sources system a b p q =
    p.plan_is ∙ ap (planned_by sources system) (one_net_only sources system p.net q.net p.is_net q.is_net) ∙ sym q.plan_is

module _ (a b : Sources) (system : List ℕ) (same : SameInstances a b system) where
  tree_plan_same : (flat : PlainFlat) (homes : List Home) → tree_plan a system (tree_at a system) flat homes ≡ tree_plan b system (tree_at a system) flat homes
  tree_plan_same flat homes =
      ap (λ (lines : List PlacedCommand). planned (cuts_of (home_at homes) flat.links)
      (resource_plans (map without_place (create_commands (home_at homes) flat.blocks) ++ map without_place lines ++ connection_commands (home_at homes) flat.links ++ map start_command (resources_of (devices_in (tree_at a system)))) (resources_of (devices_in (tree_at a system)))))
      (write_commands_same a b system same homes)

  with_homes_same : (flat : PlainFlat) (homes : PlainHomes) → with_homes a system flat homes ≡ with_homes b system flat homes
  with_homes_same flat (faulty_homes found) = refl
  with_homes_same flat (all_homes homes) =
      tree_plan_same flat homes ∙ ap (λ (t : Option DeclTree). tree_plan b system t flat homes) (own_tree a b system same)

  pub planned_same : (net : PlainNet) → planned_by a system net ≡ planned_by b system net
  planned_same (blocked names) = refl
  planned_same (recursive names) = refl
  planned_same too_large = refl
  planned_same (flat_net flat) = with_homes_same flat (homes_of a system flat.blocks) ∙ ap (with_homes b system flat) (homes_same a b system same flat.blocks)

pub plan_local : PlanIsLocal
plan_local a b system agree plan p = record {
  net = p.net;
  is_net = net_local a b system agree p.net p.is_net;
  plan_is = p.plan_is ∙ planned_same a b system (same_instances a b system agree) p.net;
}
