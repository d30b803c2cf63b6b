use Rattle.std.proofs.{Common.{◌++◌, ◌∙◌, ap, sym}, lemmas.List.Folds.{flat_map-map}, lemmas.Result.{on_ok_weaker}}
use Rattle.fb_tree.specs.Tree.{application_tree, decl_tree}
use Rattle.fb_netcheck.specs.Networks.{application_network, declared_faults}
use Rattle.fb_netcheck.proofs.networks.report_networks.Goals as goal

pub returns-in-System : goal.returns-in-System
returns-in-System g c =
    let sources = g.V.View.sources c.args.view.now in
    let unit = c.args.unit.now in
    let old = c.args.found.now.items in
    on_ok_weaker c.report_in_system.result
    (λ e. e
    ∙ ap (λ l. old ++ l) (sym (flat_map-map (application_network sources unit) application_tree c.in-System.system.applications.items))
    ∙ ap (λ d. old ++ declared_faults sources unit (decl_tree d)) (sym c.in-System.is))
    c.report_in_system.ensures
