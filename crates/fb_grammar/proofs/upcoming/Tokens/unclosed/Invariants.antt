use Rattle.std.proofs.Common.{◌≡◌, length}
use Rattle.fb_grammar.specs.Upcoming.{closing}
use Rattle.fb_grammar.proofs.upcoming.Tokens.unclosed.Given as goal

abbrev pub invariant-loop-self : goal.invariant-loop-self
invariant-loop-self l = closing l.self ≡ closing l.fn.self

abbrev pub decreases-loop-self : goal.decreases-loop-self
decreases-loop-self l = length l.self
