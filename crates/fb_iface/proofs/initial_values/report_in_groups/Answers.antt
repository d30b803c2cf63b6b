use Rattle.std.proofs.{Common.{◌≡◌, ◌++◌, ◌∙◌, ap, sym, arith}, lemmas.Grind.{common_steps}, lemmas.List.Folds.{flat_map-map}}
use Rattle.std.specs.List.{flat_map}
use Rattle.fb_tree.specs.Tree.{variables_tree}
use Rattle.fb_iface.specs.Literals.{initial_faults}
use Rattle.fb_iface.proofs.initial_values.report_in_groups.Goals as goal

pub returns : goal.returns
returns c =
    let groups = c.args.groups.now in
    let old = c.args.found.now.items in
    let all : c.loop-group.found.items ≡ old ++ flat_map (λ v. initial_faults (variables_tree v)) groups = grind (arith, common_steps) in
    all ∙ ap (λ l. old ++ l) (sym (flat_map-map initial_faults variables_tree groups))
