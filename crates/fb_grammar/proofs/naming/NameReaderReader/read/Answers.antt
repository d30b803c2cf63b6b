use Rattle.std.proofs.Common.{refl}
use Rattle.fb_grammar.specs.Words.{name}
use Rattle.fb_grammar.proofs.Loops.{gives_shorter}
use Rattle.fb_grammar.proofs.naming.NameReaderReader.read.Goals as goal

pub returns-clause-takes : goal.returns-clause-takes
unfolding name
returns-clause-takes c = gives_shorter (λ n. n) name c.name.result c.args.tokens.now c.name.new.tokens refl c.name.ensures
