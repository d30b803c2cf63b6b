use Rattle.std.proofs.{Common.{arith}, lemmas.Grind.{common_steps}}
use Rattle.fb_text.proofs.NameLemmas.{is_word-whole, name_of-word}
use Rattle.fb_text.proofs.short_name.ShortName.read.Goals as goal

pub of_word-requires-clause-word : goal.of_word-requires-clause-word
of_word-requires-clause-word c = grind (arith, common_steps, is_word-whole c.args.bytes.now)

pub returns : goal.returns
returns c = grind (arith, common_steps, is_word-whole c.args.bytes.now, name_of-word c.args.bytes.now)
