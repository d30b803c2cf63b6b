use Rattle.std.proofs.{Common.{◌++◌, ◌∙◌, ap, append_assoc}, lemmas.Result.{on_ok_weaker}}
use Rattle.fb_tree.specs.Tree.{type_tree}
use Rattle.fb_netcheck.specs.{Networks.{network_faults}, Settings.{place_in}}
use Rattle.fb_faults.specs.Faults.{chart_here}
use Rattle.fb_faults.proofs.all.report_here.Goals as goal

pub returns : goal.returns
returns g c =
    let here = place_in c.args.here.now in
    let d = type_tree c.args.declared.now in
    let old = c.args.found.now.items in
    let sources = g.V.View.sources c.args.view.now in
    let network = network_faults sources here d.network in
    on_ok_weaker c.report_network.result
    (λ e. e
    ∙ ap (λ l. l ++ network) c.in_ok-report_chart.ensures
    ∙ append_assoc old (chart_here sources here d.chart) network)
    c.report_network.ensures
