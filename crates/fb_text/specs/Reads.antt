-- What the tokens of a text are: blanks and comments are passed over, and elsewhere the longest form is the next token.
use Rattle.std.specs.Prelude.{◌≡◌, ◌≢◌, ℕ, ◌+◌, ◌≤◌, true, false, List, [], ◌∷◌, ◌++◌, length, take, drop, codes, All, None, Result, Ok, Err}
use Rattle.fb_text.specs.{Bytes.{is_blank, first}, Forms.{form_of}, Tokens.{IsLongest, char_len, with_token}, declared.token.Span.{Span}}
use Rattle.fb_text.specs.{declared.token.Token.{Token}, declared.token.TokenKind.{TokenKind}, declared.token.TokenKind.TheVariants.{Other}}

-- the text's first `*)` is between the two parts
pub record IsFirstClose (text inside rest : List ℕ) : Type 0 where
  pub parts : text ≡ inside ++ (codes "*)" ++ rest)
  pub earliest : (prefix back : List ℕ) → text ≡ prefix ++ (codes "*)" ++ back) → length inside ≤ length prefix

-- the text has no `*)`
abbrev pub NeverCloses : List ℕ → Type 0
NeverCloses text = (prefix back : List ℕ) → text ≢ prefix ++ (codes "*)" ++ back)

-- the text is over, or continues with a line feed
abbrev pub EndsLine : List ℕ → Type 0
EndsLine [] = Unit {0}
EndsLine (b ∷ bs) = b ≡ 10

-- the text begins with neither a blank nor a comment
pub record BeginsToken (text : List ℕ) : Type 0 where
  pub some : text ≢ []
  pub no_blank : is_blank (first text) ≡ false
  pub no_comment : (rest : List ℕ) → text ≢ codes "(*" ++ rest
  pub no_line_comment : (rest : List ℕ) → text ≢ codes "//" ++ rest

-- no prefix of the text has a form
abbrev pub HasNoForm : List ℕ → Type 0
HasNoForm text = (n : ℕ) → n ≤ length text → form_of (take n text) ≡ None

-- a token of n bytes at a place
abbrev pub token_of : TokenKind → ℕ → ℕ → Token
token_of kind place n = record { kind = kind; span = record { start = place; end = place + n } }

-- what is left of a text at a place reads as these tokens, or as the span of a comment that is never closed
pub data Reads : ℕ → List ℕ → Result (List Token) Span → Type 0 where
  -- the end
  AtEnd : {place : ℕ} {text : List ℕ} {reading : Result (List Token) Span} → text ≡ [] → reading ≡ Ok [] → Reads place text reading
  -- a blank is passed over
  AtBlank : {place : ℕ} {text : List ℕ} {reading : Result (List Token) Span} (b : ℕ) (rest : List ℕ)
      → text ≡ b ∷ rest → is_blank b ≡ true → Reads (place + 1) rest reading → Reads place text reading
  -- a comment is passed over through the first `*)` after its `(*`
  AtComment : {place : ℕ} {text : List ℕ} {reading : Result (List Token) Span} (after inside rest : List ℕ)
      → text ≡ codes "(*" ++ after → IsFirstClose after inside rest → Reads (place + (length inside + 4)) rest reading → Reads place text reading
  -- a comment that is never closed
  AtOpenComment : {place : ℕ} {text : List ℕ} {reading : Result (List Token) Span} (after : List ℕ)
      → text ≡ codes "(*" ++ after → NeverCloses after → reading ≡ Err (record { start = place; end = place + length text }) → Reads place text reading
  -- a line comment is passed over up to the line's end
  AtLineComment : {place : ℕ} {text : List ℕ} {reading : Result (List Token) Span} (line rest : List ℕ)
      → text ≡ codes "//" ++ (line ++ rest) → All (λ b. b ≢ 10) line → EndsLine rest → Reads (place + (length line + 2)) rest reading → Reads place text reading
  -- elsewhere the longest prefix that has a form is the next token
  AtToken : {place : ℕ} {text : List ℕ} {reading : Result (List Token) Span} (kind : TokenKind) (n : ℕ) (following : Result (List Token) Span)
      → BeginsToken text → IsLongest text kind n → Reads (place + n) (drop n text) following → reading ≡ with_token (token_of kind place n) following → Reads place text reading
  -- and one character, if no prefix has a form
  AtOther : {place : ℕ} {text : List ℕ} {reading : Result (List Token) Span} (following : Result (List Token) Span)
      → BeginsToken text → HasNoForm text → Reads (place + char_len text) (drop (char_len text) text) following → reading ≡ with_token (token_of Other place (char_len text)) following
      → Reads place text reading
