use Rattle.std.proofs.{Common.{arith, sym, ◌∙◌}, lemmas.Bool.Decides.{nat_tests}}
use Rattle.fb_grammar.proofs.Lookups.{no_symbol, symbol_of_one, symbol_of_two}
use Rattle.fb_grammar.proofs.keywords.symbol.Goals as goal

pub returns-in-len1 : goal.returns-in-len1
returns-in-len1 c = c.symbol_of_1.ensures ∙ symbol_of_one c.args.bytes.now c.in-len1.len_at_least c.in-len1.len_below

pub returns-in-len2 : goal.returns-in-len2
returns-in-len2 c = c.symbol_of_2.ensures ∙ symbol_of_two c.args.bytes.now c.in-len2.len_at_least c.in-len2.len_below

pub returns-in_default : goal.returns-in_default
returns-in_default c = sym (no_symbol c.args.bytes.now (grind (arith, nat_tests)))

pub returns-in_default-2 : goal.returns-in_default-2
returns-in_default-2 c = sym (no_symbol c.args.bytes.now (grind (arith, nat_tests)))
