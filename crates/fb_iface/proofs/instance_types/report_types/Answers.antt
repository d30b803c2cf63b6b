use Rattle.std.proofs.{Common.{◌++◌, ◌∙◌, ap, sym}, lemmas.Result.{on_ok_weaker}}
use Rattle.std.specs.List.{flat_map}
use Rattle.fb_tree.specs.Tree.{decl_tree, network_tree}
use Rattle.fb_iface.specs.Types.{instance_faults, type_faults}
use Rattle.fb_iface.proofs.TreeLemmas.{applications_joined}
use Rattle.fb_iface.proofs.instance_types.report_types.Goals as goal

pub returns-in-System : goal.returns-in-System
returns-in-System g c =
    let sources = g.V.View.sources c.args.view.now in
    let old = c.args.found.now.items in
    on_ok_weaker c.report_in_applications.result
    (λ e. e
    ∙ (λ i. old ++ flat_map (λ a. flat_map (instance_faults sources) (network_tree a.network).instances) (c.as_slice.ensures.value i))
    ∙ ap (λ l. old ++ l) (applications_joined (instance_faults sources) c.in-System.system.applications.items)
    ∙ ap (λ d. old ++ type_faults sources (decl_tree d)) (sym c.in-System.is))
    c.report_in_applications.ensures
