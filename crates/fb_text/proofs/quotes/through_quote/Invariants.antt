use Rattle.std.proofs.Common.{◌≡◌, ◌+◌, false, drop}
use Rattle.std.specs.Prelude.{option_map}
use Rattle.fb_text.specs.Scan.{through_quote}
use Rattle.fb_text.proofs.quotes.through_quote.Given as goal

-- the quote is looked for in what follows
abbrev pub invariant-loop-i : goal.invariant-loop-i
invariant-loop-i l = option_map (λ n. n + l.i) (through_quote l.quote l.escaped (drop l.i l.bytes)) ≡ through_quote l.quote false l.bytes
