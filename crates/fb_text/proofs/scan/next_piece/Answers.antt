use Rattle.std.proofs.Common.{drop, length-drop, arith, ap, ◌∙◌}
use Rattle.fb_text.specs.Tokens.{piece_at}
use Rattle.fb_text.proofs.Boundaries.{piece-fits}
use Rattle.fb_text.proofs.scan.next_piece.Goals as goal

pub returns-then-is_quote-clause-fits : goal.returns-then-is_quote-clause-fits
returns-then-is_quote-clause-fits c =
    rw c.quoted.ensures.value
    (piece-fits (drop c.args.place c.args.text.now) (rw c.range_from.ensures.value at c.range_from.utf8) (omega (arith, c.requires.place, length-drop c.args.place c.args.text.now)))

pub returns-else-is_quote-clause-fits : goal.returns-else-is_quote-clause-fits
returns-else-is_quote-clause-fits c =
    rw (c.scan.ensures ∙ ap piece_at (c.as_bytes-rest.ensures.value ∙ c.range_from.ensures.value))
    (piece-fits (drop c.args.place c.args.text.now) (rw c.range_from.ensures.value at c.range_from.utf8) (omega (arith, c.requires.place, length-drop c.args.place c.args.text.now)))
