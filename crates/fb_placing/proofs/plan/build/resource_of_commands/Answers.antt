-- The items that were picked out say the commands of the resource.
use Rattle.fb_placing.proofs.IndexLemmas.{resource_said}
use Rattle.fb_placing.proofs.plan.build.resource_of_commands.Goals as goal

pub returns : goal.returns
returns c = λ flat writes.
    resource_said flat writes c.args.name.now c.in_ok-name.name c.in_ok-items.items.items c.args.commands.now c.in_ok-name.ensures c.in_ok-items.ensures
