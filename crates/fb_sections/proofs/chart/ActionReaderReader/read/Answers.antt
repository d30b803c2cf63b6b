use Rattle.std.proofs.Common.{refl}
use Rattle.fb_grammar.specs.Words.{name}
use Rattle.fb_grammar.proofs.Loops.{gives_shorter}
use Rattle.fb_sections.specs.Chart.{action, sent_event}
use Rattle.fb_sections.proofs.chart.ActionReaderReader.read.Goals as goal

pub returns-clause-takes : goal.returns-clause-takes
unfolding action sent_event name
returns-clause-takes c = gives_shorter (λ value. value) action c.action.result c.args.tokens.now c.action.new.tokens refl c.action.ensures
