use Rattle.std.proofs.{Common.{arith}, lemmas.Grind.{common_steps}}
use Rattle.fb_text.proofs.{NameLemmas.{prefix_more, rest_more}, StoredLemmas.{stored_upper}}
use Rattle.fb_text.proofs.short_name.ShortName.of_word.Goals as goal

pub loop-i-preserved : goal.loop-i-preserved
loop-i-preserved c = grind (arith, common_steps, prefix_more c.loop-i.bytes c.args.word.now c.loop-i.i, rest_more 22 c.loop-i.bytes c.loop-i.i)

pub invariant_of-result : goal.invariant_of-result
invariant_of-result c =
    let is = c.loop-i.invariant in
    (stored_upper 22 c.loop-i.bytes c.args.word.now c.loop-i.i (omega arith) is.room is.prefix is.rest c.requires.word (omega (arith, c.requires.short)) c.requires.short).1

pub returns : goal.returns
returns c =
    let is = c.loop-i.invariant in
    (stored_upper 22 c.loop-i.bytes c.args.word.now c.loop-i.i (omega arith) is.room is.prefix is.rest c.requires.word (omega (arith, c.requires.short)) c.requires.short).0
