use Rattle.fb_grammar.specs.Upcoming.{front}
use Rattle.fb_grammar.proofs.ReadKinds.{number_read}
use Rattle.fb_sections.proofs.constants.number.Goals as goal

pub literal_use-requires : goal.literal_use-requires
literal_use-requires c =
    rw c.in_ok-token.ensures.kind (number_read c.args.tokens.now (front c.args.tokens.now) _ c.in_ok-token.ensures.reads)

pub literal_form-requires : goal.literal_form-requires
literal_form-requires c =
    rw c.in_ok-token-2.ensures.kind (number_read c.one_of-2.new.tokens (front c.one_of-2.new.tokens) _ c.in_ok-token-2.ensures.reads)
