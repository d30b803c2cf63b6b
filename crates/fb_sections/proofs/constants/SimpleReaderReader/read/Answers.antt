use Rattle.std.proofs.Common.{refl}
use Rattle.fb_grammar.specs.Words.{name}
use Rattle.fb_grammar.proofs.Loops.{gives_shorter}
use Rattle.fb_sections.specs.Constants.{simple, number}
use Rattle.fb_sections.proofs.constants.SimpleReaderReader.read.Goals as goal

pub returns-clause-takes : goal.returns-clause-takes
unfolding simple number name
returns-clause-takes c = gives_shorter (λ value. value) simple c.simple.result c.args.tokens.now c.simple.new.tokens refl c.simple.ensures
