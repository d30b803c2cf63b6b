-- The tokens of a text: at each place the longest prefix that has a form, with blanks and comments between.
use Rattle.std.specs.Prelude.{◌≡◌, ℕ, zero, suc, ◌+◌, ◌-◌, ◌<◌, ◌≤◌, not, ◌==◌, if◌then◌else◌, List, [], ◌∷◌, length, take, drop, Vec, codes, slice_range, nat_eq, Option, Some, None, Result, Ok, Err, IsOk, option_map, map}
use Rattle.std.specs.{List.{prefix_len, starts_with}, Str.{continuation_len, IsCharBoundary}, declared.alloc.Global.{Global}}
use Rattle.fb_text.specs.{Bytes.{is_blank, first}, Forms.{form_of, HasForm}, declared.token.Span.{Span}, declared.token.Token.{Token}}
use Rattle.fb_text.specs.{declared.token.TokenKind.{TokenKind}, declared.token.TokenKind.TheVariants.{Other}, declared.token.TokenFault.{TokenFault}}
use Rattle.fb_text.specs.{declared.token.TokenFault.TheVariants.{BadToken, Memory}, declared.scan.Piece.{Piece}}
use Rattle.fb_text.specs.declared.scan.Piece.TheVariants.{Gap, Unclosed, Found}

-- n bytes of a kind, or what a shorter prefix gives
abbrev pub of_kind : Option TokenKind → ℕ → Option (TokenKind × ℕ) → Option (TokenKind × ℕ)
of_kind (Some kind) n shorter = Some (kind, n)
of_kind None n shorter = shorter

-- the kind and length of the longest prefix of at most n bytes that has a form
unfoldable pub longest : ℕ → List ℕ → Option (TokenKind × ℕ)
longest zero text = None
longest (suc n) text = of_kind (form_of (take (suc n) text)) (suc n) (longest n text)

-- how many bytes the first character of a text takes, by its first byte
abbrev pub char_len : List ℕ → ℕ
char_len text = continuation_len (first text) + 1

abbrev pub token_or_char : Option (TokenKind × ℕ) → ℕ → Piece
token_or_char (Some found) len = Found found.0 found.1
token_or_char None len = Found Other len

-- the token at the start: the longest that has a form, or one character if none has
unfoldable pub token_at : List ℕ → Piece
token_at text = token_or_char (longest (length text) text) (char_len text)

-- the first n bytes have the kind's form, and no longer prefix has a form
pub record IsLongest (text : List ℕ) (kind : TokenKind) (n : ℕ) : Type 0 where
  pub within : n ≤ length text
  pub form : form_of (take n text) ≡ Some kind
  pub longer : (m : ℕ) → n < m → m ≤ length text → form_of (take m text) ≡ None

-- how many bytes come before the first `*)`, if there is one
unfoldable pub before_close : List ℕ → Option ℕ
before_close [] = None
before_close (b ∷ bs) = if starts_with nat_eq (b ∷ bs) (codes "*)") then Some 0 else option_map suc (before_close bs)

-- `(*` and all through the next `*)` after it
unfoldable pub comment_at : List ℕ → Piece
comment_at text = elim (before_close (drop 2 text)) [ Some n ↦ Gap (n + 4) | None ↦ Unclosed ]

-- what is at the start of a text
unfoldable pub piece_at : List ℕ → Piece
piece_at text =
    if is_blank (first text) then Gap 1
    else if starts_with nat_eq text (codes "(*") then comment_at text
    else if starts_with nat_eq text (codes "//") then Gap (prefix_len (λ b. not (b == 10)) text)
    else token_at text

-- a prefix of the text that is not empty and ends between two characters
pub record IsPrefix (text : List ℕ) (n : ℕ) : Type 0 where
  pub some : 0 < n
  pub ends : IsCharBoundary text n

-- the piece is such a prefix
abbrev pub FitsIn : List ℕ → Piece → Type 0
FitsIn text (Gap n) = IsPrefix text n
FitsIn text Unclosed = Unit {0}
FitsIn text (Found kind n) = IsPrefix text n

-- a token before those that a reading has
abbrev pub with_token : Token → Result (List Token) Span → Result (List Token) Span
with_token token reading = elim reading [ Ok tokens ↦ Ok (token ∷ tokens) | Err bad ↦ Err bad ]

-- the piece at a place, and then the reading of what follows it
abbrev pub piece_before : ℕ → ℕ → Piece → (ℕ → Result (List Token) Span) → Result (List Token) Span
piece_before place end (Gap n) following = following n
piece_before place end Unclosed following = Err (record { start = place; end = end })
piece_before place end (Found kind n) following = with_token (record { kind = kind; span = record { start = place; end = place + n } }) (following n)

-- The tokens from a place on, where the next `inside` bytes belong to the piece before it, or the span of a
-- comment that is never closed.
unfoldable pub tokens_from : ℕ → ℕ → List ℕ → Result (List Token) Span
tokens_from inside place [] = Ok []
tokens_from (suc inside) place (b ∷ bs) = tokens_from inside (place + 1) bs
tokens_from zero place (b ∷ bs) = piece_before place (place + length (b ∷ bs)) (piece_at (b ∷ bs)) (λ n. tokens_from (n - 1) (place + 1) bs)

-- the tokens of a text
unfoldable pub tokens_of : List ℕ → Result (List Token) Span
tokens_of text = tokens_from 0 0 text

-- What a call returned is the reading of a text. If memory ran out, the reading would have been without fault.
abbrev pub GivesReading : {A : Type 0} → Result (Vec A Global) TokenFault → Result (List A) Span → Type 0
GivesReading (Ok items) reading = reading ≡ Ok items.items
GivesReading (Err (BadToken bad)) reading = reading ≡ Err bad
GivesReading (Err Memory) reading = IsOk reading

-- the span is a part of the text that begins and ends between characters
pub record LiesIn (text : List ℕ) (span : Span) : Type 0 where
  pub rises : span.start ≤ span.end
  pub starts : IsCharBoundary text span.start
  pub ends : IsCharBoundary text span.end

-- none of the spans is empty, each begins where the one before ends, or after it, and the last one ends by the end
abbrev pub SpansRise : ℕ → ℕ → List Span → Type 0
SpansRise from end [] = from ≤ end
SpansRise from end (s ∷ ss) = (from ≤ s.start) × (s.start < s.end) × SpansRise s.end end ss

-- the spans of the tokens
abbrev pub spans_of : List Token → List Span
spans_of tokens = map (λ t. t.span) tokens

-- the bytes of a token have the form of its kind
abbrev pub IsSpelled : List ℕ → Token → Type 0
IsSpelled text t = HasForm t.kind (slice_range text t.span.start t.span.end)
