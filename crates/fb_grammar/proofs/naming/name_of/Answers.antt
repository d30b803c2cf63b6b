use Rattle.std.proofs.Common.{rules, ◌≡◌, true}
use Rattle.fb_grammar.specs.{Reading.{is_next}, Upcoming.{front}}
use Rattle.fb_grammar.proofs.Pulling.{is_name, name_token, next_among}
use Rattle.fb_grammar.proofs.naming.name_of.Goals as goal

pub spelling-requires : goal.spelling-requires
spelling-requires c =
    let next : is_next c.args.kinds.now c.args.tokens.now ≡ true = search rules in
    is_name c.args.kinds.now (front c.args.tokens.now).kind c.requires (next_among c.args.kinds.now c.args.tokens.now next)

pub take-requires : goal.take-requires
take-requires c =
    let next : is_next c.args.kinds.now c.args.tokens.now ≡ true = search rules in
    name_token (front c.args.tokens.now).kind (is_name c.args.kinds.now (front c.args.tokens.now).kind c.requires (next_among c.args.kinds.now c.args.tokens.now next))
