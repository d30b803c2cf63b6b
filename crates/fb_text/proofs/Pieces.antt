-- Pieces that the first byte tells.
use Rattle.std.proofs.Common.{◌≡◌, ◌≢◌, ℕ, ◌+◌, ◌<◌, Bool, true, false, not, List, [], ◌∷◌, length, refl, ap, ◌∙◌, arith}
use Rattle.std.proofs.{lemmas.Bool.Decides.{nat_tests}, lemmas.Bool.{cond-true, cond-false, false_from_ne_true, not-true}}
use Rattle.std.specs.{Prelude.{◌==◌, codes, nat_eq}, List.{list_all, list_any, prefix_len, starts_with}, Char.{is_ascii_digit}}
use Rattle.fb_text.specs.Bytes.{is_blank, is_quote, is_word_byte, is_word_start, hash, first}
use Rattle.fb_text.specs.Forms.{after_word, is_date, is_real, is_symbol_byte, is_symbol_pair, leading_word}
use Rattle.fb_text.specs.{Scan.{string_len, symbol_len, typed_len, typed_tail_len}, Tokens.{piece_at, token_at}}
use Rattle.fb_text.specs.{declared.token.TokenKind.TheVariants.{Word, Typed, Symbol}, declared.scan.Piece.TheVariants.{Found, Gap}}
use Rattle.fb_text.proofs.{Boundaries.{begins}, LongestToken.{any-byte, any-pair, token-symbol, token-typed, token-word}}

-- if neither a blank nor a comment can begin, a token does
pub token-piece : (bs : List ℕ) → is_blank (first bs) ≡ false → first bs ≢ 40 → first bs ≢ 47 → piece_at bs ≡ token_at bs
unfolding piece_at
token-piece bs blank no_open no_slash =
    cond-false (is_blank (first bs)) _ _ blank
    ∙ cond-false (starts_with nat_eq bs (codes "(*")) _ _ (false_from_ne_true _ (λ t. no_open (begins 40 42 bs t).first))
    ∙ cond-false (starts_with nat_eq bs (codes "//")) _ _ (false_from_ne_true _ (λ t. no_slash (begins 47 47 bs t).first))

pub blank-piece : (bs : List ℕ) → is_blank (first bs) ≡ true → piece_at bs ≡ Gap 1
unfolding piece_at
blank-piece bs blank = cond-true (is_blank (first bs)) (Gap 1) _ blank

letter-piece : (bs : List ℕ) → is_word_start (first bs) ≡ true → piece_at bs ≡ token_at bs
unfolding is_word_start is_blank
letter-piece bs start = token-piece bs (grind (arith, nat_tests)) (λ e. grind (arith, nat_tests)) (λ e. grind (arith, nat_tests))

pub word-piece : (bs : List ℕ) → 0 < length bs → is_word_start (first bs) ≡ true → typed_len bs ≡ 0 → piece_at bs ≡ Found Word (prefix_len is_word_byte bs)
word-piece bs some start none = letter-piece bs start ∙ token-word bs some start none

pub typed-piece : (bs : List ℕ) → is_word_start (first bs) ≡ true → 0 < typed_len bs → piece_at bs ≡ Found Typed (prefix_len is_word_byte bs + typed_len bs)
typed-piece bs start some = letter-piece bs start ∙ token-typed bs start some

no-tail : (date real : Bool) (bs : List ℕ) → first bs ≢ hash → typed_tail_len date real bs ≡ 0
unfolding typed_tail_len
no-tail date real [] h = refl
no-tail date real (b ∷ bs) h = grind (arith, nat_tests)

-- a word that no `#` follows begins no typed literal
pub no-typed : (bs : List ℕ) → first (after_word bs) ≢ hash → typed_len bs ≡ 0
unfolding typed_len
no-typed bs h = no-tail (is_date (leading_word bs)) (is_real (leading_word bs)) (after_word bs) h

-- the bytes that begin a symbol of two bytes
abbrev pub begins_pair : ℕ → Bool
begins_pair b = list_any (λ s. s == b) (codes ":<>*-.")

pair-begins : (a b : ℕ) → is_symbol_pair a b ≡ true → begins_pair a ≡ true
unfolding is_symbol_pair
pair-begins a b h = any-pair (λ s. begins_pair (first s)) (codes ":=" ∷ codes "<=" ∷ codes ">=" ∷ codes "<>" ∷ codes "**" ∷ codes "->" ∷ codes ".." ∷ []) a b h refl

-- what no symbol is
no-symbol : (p : ℕ → Bool) → list_all (λ s. not (p s)) (codes ";:,.()[]=<>+-*/&") ≡ true → (b : ℕ) → is_symbol_byte b ≡ true → p b ≡ false
unfolding is_symbol_byte
no-symbol p none b h = not-true (p b) (any-byte (λ s. not (p s)) (codes ";:,.()[]=<>+-*/&") b h none)

-- without a quote no string begins
pub no-quote : (bs : List ℕ) → is_quote (first bs) ≡ false → string_len bs ≡ 0
unfolding string_len
no-quote [] h = refl
no-quote (b ∷ bs) h = cond-false (is_quote b) _ 0 h

one-byte : (bs : List ℕ) → 0 < length bs → is_symbol_byte (first bs) ≡ true → begins_pair (first bs) ≡ false → symbol_len bs ≡ 1
unfolding symbol_len
one-byte [] some h alone = absurd (omega arith)
one-byte (a ∷ []) some h alone = cond-true (is_symbol_byte a) 1 0 h
one-byte (a ∷ b ∷ bs) some h alone = grind (arith, pair-begins a b)

-- a symbol that begins neither a longer one nor a comment
pub symbol-piece : (bs : List ℕ) → 0 < length bs → is_symbol_byte (first bs) ≡ true → begins_pair (first bs) ≡ false → first bs ≢ 40 → first bs ≢ 47 → piece_at bs ≡ Found Symbol 1
unfolding is_blank is_word_start is_quote
symbol-piece bs some h alone no_open no_slash =
    let one = one-byte bs some h alone in
    token-piece bs (no-symbol is_blank refl (first bs) h) no_open no_slash
    ∙ token-symbol bs (no-symbol is_word_start refl (first bs) h) (no-symbol is_ascii_digit refl (first bs) h) (no-quote bs (no-symbol is_quote refl (first bs) h)) (omega (arith, one))
    ∙ ap (Found Symbol) one
