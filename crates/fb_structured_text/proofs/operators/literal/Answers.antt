use Rattle.fb_grammar.proofs.ReadKinds.{kind_read}
use Rattle.fb_grammar.specs.{Literals.{literal_kinds}, Upcoming.{front}}
use Rattle.fb_structured_text.proofs.operators.literal.Goals as goal

pub literal_use-requires : goal.literal_use-requires
literal_use-requires c =
    rw c.in_ok-token.ensures.kind (kind_read literal_kinds c.args.tokens.now (front c.args.tokens.now) c.one_of.new.tokens c.in_ok-token.ensures.reads)
