use Rattle.std.proofs.Common.{refl, rules}
use Rattle.fb_grammar.specs.Words.{name}
use Rattle.fb_grammar.proofs.Loops.{shorter}
use Rattle.fb_sections.specs.Network.{connection, end}
use Rattle.fb_sections.proofs.connecting.ConnectionReaderReader.read.Goals as goal

pub returns-clause-reads : goal.returns-clause-reads
unfolding connection
returns-clause-reads c = search rules

pub returns-clause-takes : goal.returns-clause-takes
unfolding connection end name
returns-clause-takes c = shorter (connection c.args.self.now.sort) c.args.tokens.now _ _ refl (returns-clause-reads c)
