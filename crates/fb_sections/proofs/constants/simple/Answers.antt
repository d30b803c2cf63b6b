use Rattle.fb_grammar.specs.{Upcoming.{front}, Literals.{number_kinds}}
use Rattle.fb_grammar.proofs.{Forms.{among_right}, ReadKinds.{kind_read}}
use Rattle.fb_sections.specs.Constants.{other_literal_kinds}
use Rattle.fb_sections.proofs.constants.simple.Goals as goal

pub literal_use-requires : goal.literal_use-requires
literal_use-requires c =
    rw c.in_ok-token-2.ensures.kind (among_right number_kinds other_literal_kinds (front c.args.tokens.now).kind
    (kind_read other_literal_kinds c.args.tokens.now (front c.args.tokens.now) _ c.in_ok-token-2.ensures.reads))
