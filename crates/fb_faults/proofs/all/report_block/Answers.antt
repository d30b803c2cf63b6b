use Rattle.std.proofs.{Common.{◌++◌, ◌∙◌, ap}, lemmas.Result.{on_ok_weaker}}
use Rattle.fb_tree.specs.Tree.{type_tree}
use Rattle.fb_faults.specs.Faults.{faults_here}
use Rattle.fb_faults.proofs.all.report_block.Goals as goal

pub returns : goal.returns
returns g c =
    let sources = g.V.View.sources c.args.view.now in
    on_ok_weaker c.report_here.result
    (λ e. e ∙ ap (λ p. c.args.found.now.items ++ faults_here sources p (type_tree c.args.declared.now)) c.in_ok-here.ensures)
    c.report_here.ensures
