-- Constants as they are written.
use Rattle.std.specs.{Prelude.{ℕ, List, [], Result, Ok, Err, slice_range}, List.{flat_map}}
use Rattle.fb_tree.specs.{Text.Tokens.{tokens_of}, Text.declared.token.Span.{Span}, Text.declared.token.Token.{Token}, Tree.{ConstantTree, constant_span}}
use Rattle.fb_library.specs.Parts.{part}

abbrev pub token_text : List ℕ → Token → List ℕ
token_text text t = slice_range text t.span.start t.span.end

abbrev pub joined_tokens : List ℕ → Result (List Token) Span → List ℕ
joined_tokens text (Ok tokens) = flat_map (token_text text) tokens
joined_tokens text (Err bad) = []

-- the tokens of a text as they are written, without blanks and comments between
abbrev pub without_gaps : List ℕ → List ℕ
without_gaps text = joined_tokens text (tokens_of text)

-- a constant as it is written in the text, without blanks and comments between its tokens
abbrev pub written : List ℕ → ConstantTree → List ℕ
written text constant = without_gaps (part text (constant_span constant))
