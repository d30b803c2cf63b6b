-- The commands are those of the homes, and what they are about is the flat network that is shared.
use Rattle.std.proofs.Common.{◌≡◌, ◌++◌, map, sym, ap, ◌∙◌}
use Rattle.fb_placing.specs.{HomeTable.{home_by_path}, Cuts.{home_at}, CommandIndexes.{plain_resource}, PlacedCommands.{create_commands, write_commands}}
use Rattle.fb_placing.specs.{SystemCommands.{connection_commands, without_place, start_command}, PlainPlan.{PlainPlan}}
use Rattle.fb_placing.specs.{Resources.{resource_plans, resources_of}, Systems.{applications_in, devices_in}}
use Rattle.fb_placing.specs.declared.plan.write_commands.PlacedCommand.{PlacedCommand}
use Rattle.fb_library.specs.View.{tree_at}
use Rattle.fb_placing.proofs.plan.build.plan_of.Goals as goal

pub returns-clause-resources : goal.returns-clause-resources
returns-clause-resources g c =
    let sources = g.V.View.sources c.args.view.now in
    let tree = tree_at sources c.args.system.now in
    let flat = c.args.flat.now in
    let table : home_by_path c.in_ok-table.table.by_path ≡ home_at c.args.homes.now = c.in_ok-table.ensures in
    let placed : c.deref.result.now ≡ write_commands sources c.args.system.now (applications_in tree) c.args.homes.now = c.deref.ensures.value ∙ c.in_ok-placed.ensures in
    let names : c.deref-2.result.now ≡ resources_of (devices_in tree) = c.deref-2.ensures.value ∙ c.in_ok-names.ensures in
    let writes : c.in_ok-writes.writes.items ≡ map (λ (command : PlacedCommand). command.command) c.deref.result.now =
    c.in_ok-writes.ensures ∙ ap (map (λ (command : PlacedCommand). command.command)) (sym c.deref.ensures.value) in
    ap (λ (p : PlainPlan). p.resources) c.new.ensures
    ∙ (λ i. map (plain_resource (c.in_ok-flat.ensures i) (writes i)) c.in_ok-resources.resources.items)
    ∙ c.in_ok-resources.ensures.resources
    ∙ (λ i. resource_plans (map without_place (create_commands (table i) flat.blocks) ++ map without_place (placed i) ++ connection_commands (table i) flat.links ++ map start_command (names i)) (names i))
