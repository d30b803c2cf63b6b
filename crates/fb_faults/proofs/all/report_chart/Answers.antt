use Rattle.std.proofs.{Common.{◌≡◌, ◌++◌, ◌∙◌, ap, append_assoc}, lemmas.Result.{on_ok_weaker}}
use Rattle.fb_tree.specs.Tree.{chart_tree}
use Rattle.fb_netcheck.specs.{Settings.{place_in}, Iface.CachedFields.{structures_in}}
use Rattle.fb_expr.specs.Charts.{expression_faults}
use Rattle.fb_ecc.specs.Charts.{chart_faults}
use Rattle.fb_faults.specs.Faults.{names_here}
use Rattle.fb_faults.proofs.all.report_chart.Goals as goal

pub returns : goal.returns
returns g c =
    let here = place_in c.args.here.now in
    let tree = chart_tree c.args.chart.now in
    let old = c.args.found.now.items in
    let sources = g.V.View.sources c.args.view.now in
    let tests = expression_faults (names_here sources here) tree in
    let chart = chart_faults here.scope tree in
    let named : expression_faults (record { scope = here.scope; fields = structures_in c.in_ok-structures.structures }) tree ≡ tests = ap (λ fields. expression_faults (record { scope = here.scope; fields = fields }) tree) c.in_ok-structures.ensures in
    let first : c.report_expressions.new.found.items ≡ old ++ tests = c.in_ok-report_expressions.ensures ∙ ap (λ l. old ++ l) named in
    on_ok_weaker c.report_charts.result
    (λ e. e ∙ ap (λ l. l ++ chart) first ∙ append_assoc old tests chart)
    c.report_charts.ensures
