-- The tokens of a text as they are pulled from it: all up to a comment that is never closed, and then this comment or the end of the text.
use Rattle.std.specs.Prelude.{◌≡◌, ◌==◌, ℕ, zero, false, suc, ◌+◌, ◌-◌, Bool, List, [], ◌∷◌, length, codes, if◌then◌else◌, Option, Some, None, Result, Ok, Err}
use Rattle.std.specs.List.{list_any}
use Rattle.fb_tree.specs.{Text.Reads.{token_of}, Text.Tokens.{piece_at}, Text.declared.scan.Piece.{Piece}}
use Rattle.fb_tree.specs.{Text.declared.scan.Piece.TheVariants.{Gap, Unclosed, Found}, Text.declared.token.Span.{Span}}
use Rattle.fb_grammar.specs.{declared.kind.Kind.{Kind}, declared.kind.Kind.TheVariants.{End, NeverClosed}, declared.lexeme.Lexeme.{Lexeme}}
use Rattle.fb_grammar.specs.{Kind.{is_among, same_kind}, Lexemes.{lexeme_of}, ReservedWords.{symbol}}

-- the symbols of one byte that begin neither a longer symbol nor a comment
abbrev pub is_lone : ℕ → Bool
is_lone b = list_any (λ s. s == b) (codes ";,)[]=+&")

abbrev pub lone_symbol : ℕ → Option Kind
lone_symbol b = if is_lone b then symbol (b ∷ []) else None

-- what comes after all tokens, from a place up to the end of the text
abbrev pub closing_at : Kind → ℕ → ℕ → Lexeme
closing_at kind start end = record { kind = kind; span = record { start = start; end = end }; name = codes "_" }

-- the piece at a place, and then what follows it
abbrev pub pulled_before : List ℕ → ℕ → Piece → (ℕ → List Lexeme) → List Lexeme
pulled_before text place (Gap n) following = following n
pulled_before text place Unclosed following = closing_at NeverClosed place (length text) ∷ []
pulled_before text place (Found kind n) following = lexeme_of text (token_of kind place n) ∷ following n

-- what is pulled of the rest of a text from a place on, where the next `inside` bytes belong to the piece before it
unfoldable pub pulled_from : List ℕ → ℕ → ℕ → List ℕ → List Lexeme
pulled_from text inside place [] = closing_at End (length text) (length text) ∷ []
pulled_from text (suc inside) place (b ∷ bs) = pulled_from text inside (place + 1) bs
pulled_from text zero place (b ∷ bs) = pulled_before text place (piece_at (b ∷ bs)) (λ n. pulled_from text (n - 1) (place + 1) bs)

-- all that is pulled of a text
unfoldable pub tokens_to_end : List ℕ → List Lexeme
tokens_to_end text = pulled_from text 0 0 text

-- the next token
abbrev pub front : List Lexeme → Lexeme
front [] = closing_at End 0 0
front (token ∷ tokens) = token

-- only kinds of tokens, and none of what comes after all tokens
abbrev pub are_tokens : List Kind → Type 0
are_tokens kinds = (is_among kinds End ≡ false) × (is_among kinds NeverClosed ≡ false)

-- no token is left
abbrev pub are_over : List Lexeme → Bool
are_over tokens = is_among (End ∷ NeverClosed ∷ []) (front tokens).kind

-- the comment that is never closed, if the tokens end with one
abbrev pub closing : List Lexeme → Option Span
closing [] = None
closing (token ∷ tokens) = if same_kind token.kind NeverClosed then Some token.span else closing tokens

abbrev pub with_lexeme : Lexeme → Result (List Lexeme) Span → Result (List Lexeme) Span
with_lexeme token (Ok tokens) = Ok (token ∷ tokens)
with_lexeme token (Err bad) = Err bad

-- The tokens without what comes after them, or the comment that is never closed. For all that is pulled of a text this is `lexemes_of` of the text.
abbrev pub unended : List Lexeme → Result (List Lexeme) Span
unended [] = Ok []
unended (token ∷ tokens) =
    if same_kind token.kind NeverClosed then Err token.span
    else if same_kind token.kind End then Ok []
    else with_lexeme token (unended tokens)
