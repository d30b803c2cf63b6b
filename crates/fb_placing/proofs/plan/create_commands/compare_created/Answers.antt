-- Blocks at one path are told by the names of their types.
use Rattle.std.proofs.Common.{◌∙◌}
use Rattle.fb_network.specs.Numbered.{block_numbered}
use Rattle.fb_tree.specs.Text.Order.{name_cmp}
use Rattle.fb_placing.proofs.CreateLemmas.{by_types}
use Rattle.fb_placing.proofs.plan.create_commands.compare_created.Goals as goal

pub returns : goal.returns
returns c =
    let p = block_numbered c.args.flat.now c.args.a.now.block in
    let q = block_numbered c.args.flat.now c.args.b.now.block in
    c.compare_each.ensures ∙ by_types p.path q.path p.type_name q.type_name (name_cmp c.args.a.now.resource.now c.args.b.now.resource.now)
