use Rattle.std.proofs.Common.{refl, rules}
use Rattle.fb_grammar.specs.Words.{name}
use Rattle.fb_grammar.proofs.Loops.{shorter}
use Rattle.fb_sections.specs.Interface.{event}
use Rattle.fb_sections.proofs.interface.EventReaderReader.read.Goals as goal

pub returns-clause-reads : goal.returns-clause-reads
unfolding event
returns-clause-reads c = search rules

pub returns-clause-takes : goal.returns-clause-takes
unfolding event name
returns-clause-takes c = shorter (event c.args.self.now.side) c.args.tokens.now _ _ refl (returns-clause-reads c)
