-- The places of tokens as the grammar sees them.
use Rattle.std.proofs.{Common.{◌≡◌, List, [], ◌∷◌, ℕ, map, refl, ap, subst}, lemmas.List.Elements.{All-map}}
use Rattle.std.specs.Prelude.{All}
use Rattle.fb_tree.specs.{Text.Tokens.{LiesIn, SpansRise, spans_of}, Text.declared.token.Token.{Token}}
use Rattle.fb_grammar.specs.Lexemes.{lexeme_of}

-- a token keeps its place
pub lexemes-within : (text : List ℕ) (tokens : List Token) → All (λ t. LiesIn text t.span) tokens → All (λ l. LiesIn text l.span) (map (lexeme_of text) tokens)
unfolding lexeme_of
lexemes-within text tokens h = All-map (λ l. LiesIn text l.span) (lexeme_of text) tokens h

same-spans : (text : List ℕ) (tokens : List Token) → spans_of tokens ≡ map (λ l. l.span) (map (lexeme_of text) tokens)
unfolding lexeme_of
same-spans text [] = refl
same-spans text (t ∷ ts) = ap (λ spans. t.span ∷ spans) (same-spans text ts)

pub lexemes-rise : (text : List ℕ) (tokens : List Token) (end : ℕ) → SpansRise 0 end (spans_of tokens) → SpansRise 0 end (map (λ l. l.span) (map (lexeme_of text) tokens))
lexemes-rise text tokens end h = subst (SpansRise 0 end) (same-spans text tokens) h
