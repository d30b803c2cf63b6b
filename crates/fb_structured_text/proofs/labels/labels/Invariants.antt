use Rattle.std.proofs.Common.{◌≡◌, length}
use Rattle.fb_grammar.specs.{Form.{many}, Reading.{read}, Words.{further}}
use Rattle.fb_structured_text.specs.Statement.{label, labels}
use Rattle.fb_structured_text.proofs.Bodies.{gone}
use Rattle.fb_structured_text.proofs.labels.labels.Given as goal

abbrev pub invariant-loop-tokens : goal.invariant-loop-tokens
invariant-loop-tokens l = gone (read (many (further label)) l.tokens) ≡ read labels l.fn.tokens

abbrev pub decreases-loop-tokens : goal.decreases-loop-tokens
decreases-loop-tokens l = length l.tokens
