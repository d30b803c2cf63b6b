use Rattle.std.proofs.{Common.{arith}, lemmas.Grind.{common_steps}}
use Rattle.fb_text.proofs.{LongestToken.{token-word, token-typed, token-number, token-symbol, token-other}, Pieces.{no-quote}}
use Rattle.fb_text.proofs.scan.token.Goals as goal

pub returns-then-typed-eq0 : goal.returns-then-typed-eq0
returns-then-typed-eq0 c = grind (arith, common_steps, token-word c.args.bytes.now)

pub returns-then-is_word_start : goal.returns-then-is_word_start
returns-then-is_word_start c = grind (arith, common_steps, token-typed c.args.bytes.now)

pub returns-then-is_ascii_digit : goal.returns-then-is_ascii_digit
returns-then-is_ascii_digit c = grind (arith, common_steps, token-number c.args.bytes.now)

pub returns-then-symbol-gt0 : goal.returns-then-symbol-gt0
returns-then-symbol-gt0 c = grind (arith, common_steps, token-symbol c.args.bytes.now, no-quote c.args.bytes.now)

pub returns : goal.returns
returns c = grind (arith, common_steps, token-other c.args.bytes.now, no-quote c.args.bytes.now)
