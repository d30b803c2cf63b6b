use Rattle.std.proofs.Common.{refl, rules}
use Rattle.fb_grammar.specs.Words.{name}
use Rattle.fb_grammar.proofs.Loops.{shorter}
use Rattle.fb_sections.specs.Chart.{state}
use Rattle.fb_sections.proofs.chart.StateReaderReader.read.Goals as goal

pub returns-clause-reads : goal.returns-clause-reads
unfolding state
returns-clause-reads c = search rules

pub returns-clause-takes : goal.returns-clause-takes
unfolding state name
returns-clause-takes c = shorter state c.args.tokens.now _ _ refl (returns-clause-reads c)
