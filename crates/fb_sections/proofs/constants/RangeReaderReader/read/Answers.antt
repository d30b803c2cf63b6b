use Rattle.std.proofs.Common.{refl, rules}
use Rattle.fb_grammar.proofs.Loops.{shorter}
use Rattle.fb_sections.specs.Constants.{range, number}
use Rattle.fb_sections.proofs.constants.RangeReaderReader.read.Goals as goal

pub returns-clause-reads : goal.returns-clause-reads
unfolding range
returns-clause-reads c = search rules

pub returns-clause-takes : goal.returns-clause-takes
unfolding range number
returns-clause-takes c = shorter range c.args.tokens.now _ _ refl (returns-clause-reads c)
