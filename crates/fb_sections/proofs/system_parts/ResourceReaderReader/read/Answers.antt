use Rattle.std.proofs.Common.{refl, rules}
use Rattle.fb_grammar.proofs.Loops.{shorter}
use Rattle.fb_sections.specs.SystemParts.{resource}
use Rattle.fb_sections.proofs.system_parts.ResourceReaderReader.read.Goals as goal

pub returns-clause-reads : goal.returns-clause-reads
unfolding resource
returns-clause-reads c = search rules

pub returns-clause-takes : goal.returns-clause-takes
unfolding resource
returns-clause-takes c = shorter resource c.args.tokens.now _ _ refl (returns-clause-reads c)
