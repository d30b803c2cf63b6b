use Rattle.std.proofs.Common.{refl, rules}
use Rattle.fb_grammar.specs.Words.{name}
use Rattle.fb_grammar.proofs.Loops.{shorter}
use Rattle.fb_sections.specs.SystemParts.{mapping, path}
use Rattle.fb_sections.proofs.system_parts.MappingReaderReader.read.Goals as goal

pub returns-clause-reads : goal.returns-clause-reads
unfolding mapping
returns-clause-reads c = search rules

pub returns-clause-takes : goal.returns-clause-takes
unfolding mapping path name
returns-clause-takes c = shorter mapping c.args.tokens.now _ _ refl (returns-clause-reads c)
