use Rattle.std.proofs.{Common.{◌+◌, arith, drop}, lemmas.Grind.{common_steps}, lemmas.List.{at_drop_all}}
use Rattle.fb_text.specs.Scan.{through_quote}
use Rattle.fb_text.proofs.ScanLemmas.{through_quote-at, shifted}
use Rattle.fb_text.proofs.quotes.through_quote.Goals as goal

pub returns-then-is_line_end-clause-value : goal.returns-then-is_line_end-clause-value
returns-then-is_line_end-clause-value c =
    let step = through_quote-at c.args.quote c.loop-i.escaped c.args.bytes.now c.loop-i.i c.loop-i-test.true in
    grind (arith, common_steps)

pub returns-then-b-quote-clause-value : goal.returns-then-b-quote-clause-value
returns-then-b-quote-clause-value c =
    let step = through_quote-at c.args.quote c.loop-i.escaped c.args.bytes.now c.loop-i.i c.loop-i-test.true in
    grind (arith, common_steps)

pub loop-i-preserved : goal.loop-i-preserved
loop-i-preserved c =
    let step = through_quote-at c.args.quote c.loop-i.escaped c.args.bytes.now c.loop-i.i c.loop-i-test.true in
    let more = shifted (through_quote c.args.quote c.if-not-escaped-2.escaped (drop (c.loop-i.i + 1) c.args.bytes.now)) c.loop-i.i in
    grind (arith, common_steps)

pub returns-clause-value : goal.returns-clause-value
unfolding through_quote
returns-clause-value c =
    let done = at_drop_all (through_quote c.args.quote c.loop-i.escaped) c.args.bytes.now c.loop-i.i (omega arith) in
    grind (arith, common_steps)
