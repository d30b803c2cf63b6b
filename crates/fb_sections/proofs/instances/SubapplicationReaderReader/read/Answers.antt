use Rattle.std.proofs.Common.{refl, rules}
use Rattle.fb_grammar.specs.Words.{name}
use Rattle.fb_grammar.proofs.Loops.{shorter}
use Rattle.fb_sections.specs.Network.{inner_subapplication}
use Rattle.fb_sections.proofs.instances.SubapplicationReaderReader.read.Goals as goal

pub returns-clause-reads : goal.returns-clause-reads
unfolding inner_subapplication
returns-clause-reads c = search rules

pub returns-clause-takes : goal.returns-clause-takes
unfolding inner_subapplication name
returns-clause-takes c = shorter inner_subapplication c.args.tokens.now _ _ refl (returns-clause-reads c)
