use Rattle.std.proofs.Common.{refl, rules}
use Rattle.fb_grammar.specs.Words.{name, names}
use Rattle.fb_grammar.proofs.Loops.{shorter}
use Rattle.fb_sections.specs.Interface.{variables}
use Rattle.fb_sections.proofs.interface.VariablesReaderReader.read.Goals as goal

pub returns-clause-reads : goal.returns-clause-reads
unfolding variables
returns-clause-reads c = search rules

pub returns-clause-takes : goal.returns-clause-takes
unfolding variables names name
returns-clause-takes c = shorter (variables c.args.self.now.section) c.args.tokens.now _ _ refl (returns-clause-reads c)
