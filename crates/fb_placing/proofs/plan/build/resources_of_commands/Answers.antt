-- One resource further.
use Rattle.std.proofs.Common.{◌++◌, ◌∷◌, [], map, take, sym, ap, ◌∙◌}
use Rattle.fb_placing.specs.{CommandIndexes.{plain_command, plain_resource}, Resources.{resource_plan, resource_plans}}
use Rattle.fb_placing.proofs.ListLemmas.{map-push, one_more}
use Rattle.fb_placing.proofs.plan.build.resources_of_commands.Goals as goal

pub loop-name-preserved : goal.loop-name-preserved
loop-name-preserved c = λ flat writes.
    let commands = map (plain_command flat writes) c.args.commands.now in
    let names = c.args.names.now in
    let i = c.loop-name.name-index in
    let x = c.name-item.result in
    ap (map (plain_resource flat writes)) c.in_ok-push.ensures.items
    ∙ map-push (plain_resource flat writes) c.loop-name.all.items c.in_ok-resource_of_commands.field-0
    ∙ (λ k. c.loop-name.invariant flat writes k ++ c.in_ok-resource_of_commands.ensures flat writes k ∷ [])
    ∙ sym (ap (resource_plans commands) (one_more names i x c.loop-name-test.true c.name-item.is) ∙ map-push (resource_plan commands) (take i names) x)
