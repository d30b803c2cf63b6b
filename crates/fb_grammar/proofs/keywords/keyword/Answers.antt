use Rattle.std.proofs.{Common.{arith, sym}, lemmas.Bool.Decides.{nat_tests}}
use Rattle.fb_grammar.proofs.Lookups.{no_keyword}
use Rattle.fb_grammar.proofs.keywords.keyword.Goals as goal

pub returns-in_default : goal.returns-in_default
returns-in_default c = sym (no_keyword c.args.word.now (grind (arith, nat_tests)))

pub returns-in_default-2 : goal.returns-in_default-2
returns-in_default-2 c = sym (no_keyword c.args.word.now (grind (arith, nat_tests)))
