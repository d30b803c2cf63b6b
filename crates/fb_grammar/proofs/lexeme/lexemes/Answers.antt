use Rattle.std.proofs.{Common.{sym, ap, subst, ◌∙◌, take, length, map}, lemmas.List.Elements.{All-take}, lemmas.List.{take_all}}
use Rattle.std.specs.Prelude.{All}
use Rattle.fb_tree.specs.Text.Tokens.{LiesIn, SpansRise, spans_of}
use Rattle.fb_grammar.specs.Lexemes.{lexeme_of}
use Rattle.fb_grammar.proofs.Lexing.{lexemes-rise, lexemes-within}
use Rattle.fb_grammar.proofs.lexeme.lexemes.Goals as goal

pub returns-clause-within : goal.returns-clause-within
returns-clause-within c =
    let text = c.args.text.now in
    let tokens = c.deref-token-items.result.now in
    let within = subst (All (λ t. LiesIn text t.span)) (sym c.deref-token-items.ensures.value) c.in_ok-tokens.ensures.within in
    subst (All (λ l. LiesIn text l.span)) (sym c.loop-token.invariant)
    (lexemes-within text (take c.loop-token.token-index tokens) (All-take (λ t. LiesIn text t.span) c.loop-token.token-index tokens within))

pub returns-clause-rise : goal.returns-clause-rise
returns-clause-rise c =
    let text = c.args.text.now in
    let tokens = c.deref-token-items.result.now in
    let rise = subst (λ ts. SpansRise 0 (length text) (spans_of ts)) (sym c.deref-token-items.ensures.value) c.in_ok-tokens.ensures.rise in
    let whole = c.loop-token.invariant ∙ ap (map (lexeme_of text)) (take_all c.loop-token.token-index tokens c.loop-token-test.false) in
    subst (λ ls. SpansRise 0 (length text) (map (λ l. l.span) ls)) (sym whole) (lexemes-rise text tokens (length text) rise)
