use Rattle.std.proofs.{Common.{◌++◌, ◌∙◌, refl, sym}, lemmas.Result.{on_ok_weaker}}
use Rattle.std.specs.List.{flat_map}
use Rattle.fb_iface.specs.Declarations.{space_duplicates}
use Rattle.fb_iface.proofs.TreeLemmas.{interface_joined, map_itself}
use Rattle.fb_iface.proofs.repeats.report_in_interface.Goals as goal

pub returns : goal.returns
returns c =
    let interface = c.args.interface.now in
    let old = c.args.found.now.items in
    let names = flat_map (λ v. v.names.items) interface.variables.items in
    on_ok_weaker c.report_variables.result
    (λ e. e
    ∙ (λ i. c.in_ok-report_events.ensures i ++ space_duplicates (sym (map_itself names) i))
    ∙ interface_joined old interface names refl)
    c.report_variables.ensures
