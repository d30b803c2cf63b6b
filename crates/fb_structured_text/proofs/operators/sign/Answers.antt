use Rattle.fb_grammar.proofs.ReadKinds.{kind_read}
use Rattle.fb_grammar.specs.Upcoming.{front}
use Rattle.fb_structured_text.specs.Operators.{signs}
use Rattle.fb_structured_text.proofs.operators.sign.Goals as goal

pub unary_operator-requires : goal.unary_operator-requires
unary_operator-requires c =
    rw c.in_ok-token.ensures.kind (kind_read signs c.args.tokens.now (front c.args.tokens.now) c.one_of.new.tokens c.in_ok-token.ensures.reads)
