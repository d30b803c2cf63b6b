use Rattle.std.proofs.Common.{◌≡◌, length}
use Rattle.fb_grammar.specs.Reading.{read}
use Rattle.fb_sections.specs.Skipped.{skipped}
use Rattle.fb_sections.proofs.skipped.skip.Given as goal

abbrev pub invariant-loop-tokens : goal.invariant-loop-tokens
invariant-loop-tokens l = read (skipped l.end) l.tokens ≡ read (skipped l.end) l.initial.tokens

abbrev pub decreases-loop-tokens : goal.decreases-loop-tokens
decreases-loop-tokens l = length l.tokens
