use Rattle.std.proofs.{Common.{◌≡◌, ◌++◌, ◌∙◌, ap, map}, lemmas.Result.{on_ok_weaker}}
use Rattle.fb_iface.specs.Declarations.{space_duplicates}
use Rattle.fb_iface.proofs.TreeLemmas.{chart_joined}
use Rattle.fb_iface.proofs.repeats.report_in_chart.Goals as goal

pub returns : goal.returns
returns c =
    let chart = c.args.chart.now in
    let old = c.args.found.now.items in
    let first : c.report_repeated.new.found.items ≡ old ++ space_duplicates (map (λ s. s.name) chart.states.items) = c.in_ok-report_repeated.ensures ∙ ap (λ l. old ++ space_duplicates (map (λ s. s.name) l)) c.as_slice.ensures.value in
    on_ok_weaker c.report_repeated-2.result
    (λ e. e
    ∙ (λ i. first i ++ space_duplicates (map (λ a. a.name) (c.as_slice-2.ensures.value i)))
    ∙ chart_joined old chart)
    c.report_repeated-2.ensures
