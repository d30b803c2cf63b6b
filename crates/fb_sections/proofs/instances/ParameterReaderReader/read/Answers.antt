use Rattle.std.proofs.Common.{refl, rules}
use Rattle.fb_grammar.specs.Words.{name}
use Rattle.fb_grammar.proofs.Loops.{shorter}
use Rattle.fb_sections.specs.Network.{parameter}
use Rattle.fb_sections.proofs.instances.ParameterReaderReader.read.Goals as goal

pub returns-clause-reads : goal.returns-clause-reads
unfolding parameter
returns-clause-reads c = search rules

pub returns-clause-takes : goal.returns-clause-takes
unfolding parameter name
returns-clause-takes c = shorter parameter c.args.tokens.now _ _ refl (returns-clause-reads c)
