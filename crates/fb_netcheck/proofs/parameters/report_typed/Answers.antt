use Rattle.std.proofs.{Common.{◌++◌, ◌∙◌, ap, sym}, lemmas.List.Folds.{flat_map-map}, lemmas.Result.{on_ok_weaker}}
use Rattle.fb_tree.specs.Tree.{ParameterTree, parameter_tree}
use Rattle.fb_iface.specs.Names.{stands_for}
use Rattle.fb_netcheck.specs.Parameters.{parameter_faults}
use Rattle.fb_netcheck.proofs.parameters.report_typed.Goals as goal

pub returns-in-Some : goal.returns-in-Some
returns-in-Some c =
    let old = c.args.found.now.items in
    let variables = c.in-Some.ports.now.variables in
    rw c.in-Some.is
    (on_ok_weaker c.report_of_type.result
    (λ e. e ∙ ap (λ l. old ++ l) (sym (flat_map-map (λ (p : ParameterTree). parameter_faults (stands_for variables p.name.name) p) parameter_tree c.args.parameters.now)))
    c.report_of_type.ensures)
