-- The plan of the homes that were found is the plan.
use Rattle.std.proofs.Common.{sym, ◌∙◌, ap}
use Rattle.fb_mapping.specs.{Library.View.{tree_at}, Placing.Homes.{plain_homes}}
use Rattle.fb_deploy.specs.Deploy.{planned, tree_plan, with_homes}
use Rattle.fb_deploy.proofs.planning.plan_flat.Goals as goal

pub returns-in_ok-plan-in-On : goal.returns-in_ok-plan-in-On
returns-in_ok-plan-in-On g c =
    let sources = g.V.View.sources c.args.view.now in
    let system = c.args.system.now in
    let flat = c.args.flat.now in
    (λ i. planned (c.in_ok-plan-in-On.ensures.cuts i) (c.in_ok-plan-in-On.ensures.resources i))
    ∙ ap (tree_plan sources system (tree_at sources system) flat) c.as_slice.ensures.value
    ∙ ap (with_homes sources system flat) (sym (ap plain_homes c.in-On.is) ∙ c.in_ok-found.ensures)
