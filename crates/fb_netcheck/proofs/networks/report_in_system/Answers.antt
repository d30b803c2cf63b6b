use Rattle.std.proofs.Common.{◌≡◌, ◌++◌, ◌∙◌, ◌<◌, ap, arith, get_or, length}
use Rattle.fb_tree.specs.{Tree.{application_tree}, declared.system.Application.{Application}}
use Rattle.fb_netcheck.specs.Networks.{application_network}
use Rattle.fb_netcheck.proofs.JoinLemmas.{flat_map_next}
use Rattle.fb_netcheck.proofs.networks.report_in_system.Goals as goal

pub loop-application-preserved : goal.loop-application-preserved
loop-application-preserved g c =
    let judged = λ (a : Application). application_network (g.V.View.sources c.args.view.now) c.args.unit.now (application_tree a) in
    let applications = c.args.system.now.applications.items in
    let i = c.loop-application.application-index in
    let x = c.application-item.result in
    let slice : c.deref-application-items.result.now ≡ applications = c.deref-application-items.ensures.value in
    let within : i < length applications = omega (arith, ap length slice) in
    let here : x ≡ get_or applications i x = c.application-item.is ∙ ap (λ l. get_or l i x) slice in
    c.in_ok-report_application.ensures
    ∙ ap (λ l. l ++ judged x) c.loop-application.invariant
    ∙ flat_map_next judged c.args.found.now.items applications i x within here
