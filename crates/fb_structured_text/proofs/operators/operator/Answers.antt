use Rattle.std.proofs.Common.{◌≡◌, true, List, subst}
use Rattle.fb_grammar.proofs.ReadKinds.{kind_read}
use Rattle.fb_grammar.specs.{declared.kind.Kind.{Kind}, Kind.{is_among}, Upcoming.{front}}
use Rattle.fb_structured_text.specs.Operators.{operators}
use Rattle.fb_structured_text.proofs.Rows.{operators_are_tokens, strength_told}
use Rattle.fb_structured_text.proofs.operators.operator.Goals as goal

pub one_of-requires : goal.one_of-requires
one_of-requires c = rw c.operators.ensures (operators_are_tokens c.args.strength c.requires)

pub binary_operator-requires : goal.binary_operator-requires
binary_operator-requires c =
    let among = kind_read c.operators.result.now c.args.tokens.now (front c.args.tokens.now) c.one_of.new.tokens c.in_ok-token.ensures.reads in
    let here : is_among (operators c.args.strength) (front c.args.tokens.now).kind ≡ true = subst (λ (kinds : List Kind). is_among kinds (front c.args.tokens.now).kind ≡ true) c.operators.ensures among in
    rw (c.in_ok-token.ensures.kind, strength_told c.args.strength (front c.args.tokens.now).kind c.requires here) c.requires
