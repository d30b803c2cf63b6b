use Rattle.std.proofs.Common.{rules, ◌∷◌, [], Ok, ap, sym, ◌∙◌}
use Rattle.fb_grammar.specs.Upcoming.{front}
use Rattle.fb_grammar.proofs.Pulling.{is_kind, is_other, one_refused, one_taken}
use Rattle.fb_grammar.proofs.naming.key.Goals as goal

pub returns-then-code-clause-reads : goal.returns-then-code-clause-reads
returns-then-code-clause-reads c =
    one_refused (c.args.kind ∷ []) c.args.tokens.now (is_other c.args.kind (front c.args.tokens.now).kind (search rules))

pub returns-clause-reads : goal.returns-clause-reads
returns-clause-reads c =
    one_taken (c.args.kind ∷ []) c.args.tokens.now c.kind.ensures.some (is_kind c.args.kind (front c.args.tokens.now).kind (search rules)) ∙ ap (λ rest. Ok (front c.args.tokens.now, rest)) (sym c.take.ensures)
