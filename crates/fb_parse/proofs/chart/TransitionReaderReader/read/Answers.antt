use Rattle.fb_structured_text.proofs.Forms.Loops.{gives_shorter}
use Rattle.fb_tree.specs.Tree.{transition_tree}
use Rattle.fb_parse.specs.Chart.{transition}
use Rattle.fb_parse.proofs.Predictive.{transition_filled}
use Rattle.fb_parse.proofs.chart.TransitionReaderReader.read.Goals as goal

pub returns-clause-takes : goal.returns-clause-takes
returns-clause-takes c = gives_shorter transition_tree transition c.transition.result c.args.tokens.now c.transition.new.tokens transition_filled c.transition.ensures
