-- Words and symbols are found among those of their length.
use Rattle.std.proofs.Common.{◌≡◌, ℕ, ◌≤◌, ◌<◌, Bool, true, ◌&&◌, ◌||◌, List, [], ◌∷◌, slice_index, refl, length, map, filter, None, nat_eq, nat_le, nat_lt, arith, sym, ap, ◌∙◌, eq-eqb, false, true≢false}
use Rattle.std.proofs.{lemmas.Bool.Decides.{nat_tests}, lemmas.Bool.{false_from_ne_true}, lemmas.List.{length-map}, lemmas.Map.Entries.{lookup-filter-keys}}
use Rattle.std.specs.{Map.{lookup}, Char.{to_ascii_lowercase}, Cmp.Lexicographic.{pointwise, same_text}}
use Rattle.fb_tree.specs.Text.Forms.{same_word}
use Rattle.fb_grammar.specs.{ReservedWords.{keyword, reserved_words, symbol, symbols}, ByLength.{initial, words_between, symbols_of}}

same_length : (a b : List ℕ) → same_word a b ≡ true → length b ≡ length a
unfolding same_word
same_length a b e =
    let texts = same_text (map to_ascii_lowercase a) (map to_ascii_lowercase b) (sym e) in
    sym (length-map b to_ascii_lowercase) ∙ sym (ap length texts) ∙ length-map a to_ascii_lowercase

-- a word is found among those words whose length passes a test that its own passes
word_among : (p : ℕ → Bool) (word : List ℕ) → p (length word) ≡ true → lookup (same_word word) (filter (λ e. p (length e.0)) reserved_words) ≡ lookup (same_word word) reserved_words
word_among p word h = lookup-filter-keys (same_word word) (λ k. p (length k)) true (λ k e. ap p (same_length word k e) ∙ h) reserved_words

pub keyword_by_length : (low high : ℕ) (word : List ℕ) → low ≤ length word → length word ≤ high → lookup (same_word word) (words_between low high) ≡ keyword word
unfolding keyword words_between
keyword_by_length low high word a b = word_among (λ n. nat_le low n && nat_le n high) word (grind (arith, nat_tests))

pub no_keyword : (word : List ℕ) → (nat_lt (length word) 2 || nat_lt 19 (length word)) ≡ true → keyword word ≡ None
unfolding keyword
no_keyword word h = sym (word_among (λ n. nat_lt n 2 || nat_lt 19 n) word h)

symbol_among : (p : ℕ → Bool) (bytes : List ℕ) → p (length bytes) ≡ true → lookup (pointwise nat_eq bytes) (filter (λ e. p (length e.0)) symbols) ≡ lookup (pointwise nat_eq bytes) symbols
symbol_among p bytes h = lookup-filter-keys (pointwise nat_eq bytes) (λ k. p (length k)) true (λ k e. ap (λ b. p (length b)) (sym (same_text bytes k (sym e))) ∙ h) symbols

pub symbol_by_length : (n : ℕ) (bytes : List ℕ) → length bytes ≡ n → lookup (pointwise nat_eq bytes) (symbols_of n) ≡ symbol bytes
unfolding symbol symbols_of
symbol_by_length n bytes h = symbol_among (λ k. nat_eq k n) bytes (grind (arith, nat_tests))

pub no_symbol : (bytes : List ℕ) → (nat_lt (length bytes) 1 || nat_lt 2 (length bytes)) ≡ true → symbol bytes ≡ None
unfolding symbol
no_symbol bytes h = sym (symbol_among (λ n. nat_lt n 1 || nat_lt 2 n) bytes h)

pub symbol_of_one : (bytes : List ℕ) → 1 ≤ length bytes → length bytes < 2 → lookup (pointwise nat_eq (slice_index bytes 0 ∷ [])) (symbols_of 1) ≡ symbol bytes
symbol_of_one [] a b = absurd (omega arith)
symbol_of_one (x ∷ []) a b = symbol_by_length 1 (x ∷ []) refl
symbol_of_one (x ∷ y ∷ ys) a b = absurd (omega arith)

pub symbol_of_two : (bytes : List ℕ) → 2 ≤ length bytes → length bytes < 3 → lookup (pointwise nat_eq (slice_index bytes 0 ∷ slice_index bytes 1 ∷ [])) (symbols_of 2) ≡ symbol bytes
symbol_of_two [] a b = absurd (omega arith)
symbol_of_two (x ∷ []) a b = absurd (omega arith)
symbol_of_two (x ∷ y ∷ []) a b = symbol_by_length 2 (x ∷ y ∷ []) refl
symbol_of_two (x ∷ y ∷ z ∷ zs) a b = absurd (omega arith)

same_initial : (a b : List ℕ) → same_word a b ≡ true → initial b ≡ initial a
unfolding same_word
same_initial a b e =
    let texts = same_text (map to_ascii_lowercase a) (map to_ascii_lowercase b) (sym e) in
    of_lowercase b ∙ sym (ap (λ (x : List ℕ). slice_index x 0) texts) ∙ sym (of_lowercase a)
  where
    of_lowercase : (x : List ℕ) → initial x ≡ slice_index (map to_ascii_lowercase x) 0
    of_lowercase [] = refl
    of_lowercase (c ∷ x) = refl

-- words with other first letters are two words
pub other_initial : (a b : List ℕ) → nat_eq (initial a) (initial b) ≡ false → same_word a b ≡ false
other_initial a b apart = false_from_ne_true (same_word a b) (λ same. true≢false (sym (eq-eqb (initial a) (initial b) (sym (same_initial a b same))) ∙ apart))
