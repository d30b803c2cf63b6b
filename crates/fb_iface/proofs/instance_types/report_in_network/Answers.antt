use Rattle.std.proofs.{Common.{◌≡◌, ◌++◌, ◌∙◌, ap, sym, arith}, lemmas.Grind.{common_steps}, lemmas.List.Folds.{flat_map-map}}
use Rattle.std.specs.List.{flat_map}
use Rattle.fb_tree.specs.Tree.{instance_tree}
use Rattle.fb_iface.specs.Types.{instance_faults}
use Rattle.fb_iface.proofs.instance_types.report_in_network.Goals as goal

pub returns : goal.returns
returns g c =
    let instances = c.args.network.now.instances.items in
    let sources = g.V.View.sources c.args.view.now in
    let old = c.args.found.now.items in
    let all : c.loop-instance.found.items ≡ old ++ flat_map (λ i. instance_faults sources (instance_tree i)) instances = grind (arith, common_steps) in
    all ∙ ap (λ l. old ++ l) (sym (flat_map-map (instance_faults sources) instance_tree instances))
