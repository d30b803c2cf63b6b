-- The token at the front of a text, by its first byte.
use Rattle.std.proofs.Common.{◌≡◌, ℕ, zero, suc, ◌+◌, ◌-◌, ◌<◌, ◌≤◌, Bool, true, false, not, cond, ◌&&◌, List, [], ◌∷◌, length, take, refl, ap, ◌∙◌, arith, length-drop, Some, None, ⊎_elim}
use Rattle.std.proofs.lemmas.Bool.Decides.{nat_tests}
use Rattle.std.proofs.lemmas.Bool.{cond-true, cond-false, and_left, cases_lt}
use Rattle.std.proofs.lemmas.List.Sums.{prefix_len-le-length}
use Rattle.std.specs.{Prelude.{◌==◌, codes}, List.{prefix_len, list_all, list_any}, Char.{is_ascii_digit}, Cmp.Lexicographic.{pointwise}}
use Rattle.fb_text.specs.{Bytes.{is_word_start, is_word_byte, is_quote, first}, Words.{is_word}}
use Rattle.fb_text.specs.Forms.{is_number, is_typed, is_typed_tail, is_date, is_real, leading_word, after_word, is_string, is_string_rest, is_symbol, is_symbol_byte, is_symbol_pair, form_of}
use Rattle.fb_text.specs.Scan.{number_len, typed_len, string_len, symbol_len}
use Rattle.fb_text.specs.{Tokens.{longest, token_or_char, token_at, char_len}, declared.token.TokenKind.{TokenKind}}
use Rattle.fb_text.specs.{declared.token.TokenKind.TheVariants.{Word, Number, Typed, String, Symbol, Other}, declared.scan.Piece.TheVariants.{Found}}
use Rattle.fb_text.proofs.NameLemmas.{is_word_byte-start}
use Rattle.fb_text.proofs.LongestForms.{first-take, prefix_len-pos, Takes-number, word-take, word-take-past, typed-take, Takes-typed-tail, Takes-string, Takes-symbol}

-- classes of first bytes
abbrev is_plain : ℕ → Bool
is_plain b = not (is_word_start b) && (not (is_ascii_digit b) && not (is_quote b))

letter-only : (b : ℕ) → is_word_start b ≡ true → (is_ascii_digit b ≡ false) × (is_quote b ≡ false)
unfolding is_word_start is_quote
letter-only b h = grind (arith, nat_tests)

digit-only : (b : ℕ) → is_ascii_digit b ≡ true → (is_word_start b ≡ false) × (is_quote b ≡ false)
unfolding is_word_start is_quote
digit-only b h = grind (arith, nat_tests)

-- what holds of each byte of a list holds of one that equals one of them
pub any-byte : (p : ℕ → Bool) (xs : List ℕ) (b : ℕ) → list_any (λ s. s == b) xs ≡ true → list_all p xs ≡ true → p b ≡ true
any-byte p [] b h k = cc
any-byte p (x ∷ xs) b h k = grind (arith, nat_tests, any-byte p xs b)

-- and of a list of two
pub any-pair : (q : List ℕ → Bool) (xs : List (List ℕ)) (a b : ℕ) → list_any (λ s. pointwise (λ x y. x == y) s (a ∷ b ∷ [])) xs ≡ true → list_all q xs ≡ true → q (a ∷ b ∷ []) ≡ true
any-pair q [] a b h k = cc
any-pair q ([] ∷ xs) a b h k = grind (arith, any-pair q xs a b)
any-pair q ((x ∷ []) ∷ xs) a b h k = grind (arith, any-pair q xs a b)
any-pair q ((x ∷ y ∷ []) ∷ xs) a b h k = grind (arith, nat_tests, any-pair q xs a b)
any-pair q ((x ∷ y ∷ z ∷ s) ∷ xs) a b h k = grind (arith, any-pair q xs a b)

symbol-plain : (bs : List ℕ) → is_symbol bs ≡ true → is_plain (first bs) ≡ true
unfolding is_symbol is_symbol_byte is_symbol_pair is_word_start is_quote
symbol-plain [] h = cc
symbol-plain (a ∷ []) h = any-byte is_plain (codes ";:,.()[]=<>+-*/&") a h refl
symbol-plain (a ∷ b ∷ []) h = any-pair (λ s. is_plain (first s)) (codes ":=" ∷ codes "<=" ∷ codes ">=" ∷ codes "<>" ∷ codes "**" ∷ codes "->" ∷ codes ".." ∷ []) a b h refl
symbol-plain (a ∷ b ∷ c ∷ cs) h = cc

not-symbol : (bs : List ℕ) → is_plain (first bs) ≡ false → is_symbol bs ≡ false
not-symbol bs h = grind (arith, symbol-plain bs)

not-word : (bs : List ℕ) → is_word_start (first bs) ≡ false → is_word bs ≡ false
unfolding is_word
not-word [] h = refl
not-word (b ∷ bs) h = and_left (is_word_start b) (list_all is_word_byte bs) h

not-string : (bs : List ℕ) → is_quote (first bs) ≡ false → is_string bs ≡ false
unfolding is_string
not-string [] h = refl
not-string (b ∷ bs) h = and_left (is_quote b) (is_string_rest b bs) h

-- the forms that begin with a letter or `_`
form-letter : (bs : List ℕ) → is_word_start (first bs) ≡ true → form_of bs ≡ cond (is_word bs) (Some Word) (cond (is_typed bs) (Some Typed) None)
unfolding form_of is_number is_typed
form-letter bs h = grind (arith, not-string bs, not-symbol bs, letter-only (first bs))

form-digit : (bs : List ℕ) → is_ascii_digit (first bs) ≡ true → form_of bs ≡ cond (is_number bs) (Some Number) None
unfolding form_of is_number is_typed
form-digit bs h = grind (arith, not-word bs, not-string bs, not-symbol bs, digit-only (first bs))

form-other : (bs : List ℕ) → is_word_start (first bs) ≡ false → is_ascii_digit (first bs) ≡ false → form_of bs ≡ cond (is_string bs) (Some String) (cond (is_symbol bs) (Some Symbol) None)
unfolding form_of is_number is_typed
form-other bs h k = grind (arith, not-word bs h)

-- the longest prefix
longest-found : (text : List ℕ) (n : ℕ) (kind : TokenKind) (m : ℕ) → 0 < n → n ≤ m → form_of (take n text) ≡ Some kind → ((j : ℕ) → n < j → j ≤ m → form_of (take j text) ≡ None) → longest m text ≡ Some (kind, n)
unfolding longest
longest-found text n kind zero pos l here more = absurd (omega arith)
longest-found text n kind (suc m) pos l here more =
    ⊎_elim
    (λ (below : n < suc m). rw (more (suc m) below (omega arith)) (longest-found text n kind m pos (omega arith) here (λ j h k. more j h (omega arith))))
    (λ (above : suc m ≤ n). let same : suc m ≡ n = omega arith in rw (same, here))
    (cases_lt n (suc m))

pub longest-none : (text : List ℕ) (m : ℕ) → ((j : ℕ) → 0 < j → j ≤ m → form_of (take j text) ≡ None) → longest m text ≡ None
unfolding longest
longest-none text zero more = refl
longest-none text (suc m) more = rw (more (suc m) (omega arith) (omega arith)) (longest-none text m (λ j h k. more j h (omega arith)))

pub found : (text : List ℕ) (n : ℕ) (kind : TokenKind) → 0 < n → n ≤ length text → form_of (take n text) ≡ Some kind → ((j : ℕ) → n < j → j ≤ length text → form_of (take j text) ≡ None) → token_at text ≡ Found kind n
unfolding token_at
found text n kind pos l here more = ap (λ o. token_or_char o (char_len text)) (longest-found text n kind (length text) pos l here more)

pub token-word : (text : List ℕ) → 0 < length text → is_word_start (first text) ≡ true → typed_len text ≡ 0 → token_at text ≡ Found Word (prefix_len is_word_byte text)
unfolding typed_len
token-word text pos start none =
    let w = prefix_len is_word_byte text in
    let some : 0 < w = prefix_len-pos is_word_byte text pos (is_word_byte-start (first text) start) in
    let typed = Takes-typed-tail (is_date (leading_word text)) (is_real (leading_word text)) (after_word text) in
    found text w Word some (prefix_len-le-length is_word_byte text)
    (form-letter (take w text) (ap is_word_start (first-take text w some) ∙ start) ∙ cond-true (is_word (take w text)) _ _ (word-take text w start some (omega arith)))
    (λ j h l. form-letter (take j text) (ap is_word_start (first-take text j (omega arith)) ∙ start) ∙ cond-false (is_word (take j text)) _ _ (word-take-past text j start h l)
    ∙ cond-false (is_typed (take j text)) _ _ (typed-take text j (omega arith) (omega arith) l start ∙ typed.longer (j - w) (omega arith) (omega (arith, length-drop w text))))

pub token-typed : (text : List ℕ) → is_word_start (first text) ≡ true → 0 < typed_len text → token_at text ≡ Found Typed (prefix_len is_word_byte text + typed_len text)
unfolding typed_len
token-typed text start some =
    let w = prefix_len is_word_byte text in
    let n = typed_len text in
    let typed = Takes-typed-tail (is_date (leading_word text)) (is_real (leading_word text)) (after_word text) in
    let whole = prefix_len-le-length is_word_byte text in
    let fits : n ≤ length text - w = omega (arith, typed.within, length-drop w text) in
    let back : w + n - w ≡ n = omega arith in
    found text (w + n) Typed (omega arith) (omega arith)
    (form-letter (take (w + n) text) (ap is_word_start (first-take text (w + n) (omega arith)) ∙ start) ∙ cond-false (is_word (take (w + n) text)) _ _ (word-take-past text (w + n) start (omega arith) (omega arith))
    ∙ cond-true (is_typed (take (w + n) text)) _ _ (typed-take text (w + n) (omega arith) (omega arith) (omega arith) start ∙ ap (λ j. is_typed_tail (is_date (leading_word text)) (is_real (leading_word text)) (take j (after_word text))) back ∙ typed.passes some))
    (λ j h l. form-letter (take j text) (ap is_word_start (first-take text j (omega arith)) ∙ start) ∙ cond-false (is_word (take j text)) _ _ (word-take-past text j start (omega arith) l)
    ∙ cond-false (is_typed (take j text)) _ _ (typed-take text j (omega arith) (omega arith) l start ∙ typed.longer (j - w) (omega arith) (omega (arith, length-drop w text))))

pub token-number : (text : List ℕ) → 0 < length text → is_ascii_digit (first text) ≡ true → token_at text ≡ Found Number (number_len text)
token-number text pos digit =
    let n = number_len text in
    let t = Takes-number text pos digit in
    found text n Number t.1 t.0.within
    (form-digit (take n text) (ap is_ascii_digit (first-take text n t.1) ∙ digit) ∙ cond-true (is_number (take n text)) _ _ (t.0.passes t.1))
    (λ j h l. form-digit (take j text) (ap is_ascii_digit (first-take text j (omega arith)) ∙ digit) ∙ cond-false (is_number (take j text)) _ _ (t.0.longer j h l))

pub string-no-symbol : (bs : List ℕ) → is_quote (first bs) ≡ true → is_symbol bs ≡ false
string-no-symbol bs h = not-symbol bs (grind arith)

string-quote : (text : List ℕ) → 0 < string_len text → is_quote (first text) ≡ true
unfolding string_len
string-quote [] h = absurd (omega arith)
string-quote (b ∷ bs) h = grind arith

module _ (text : List ℕ) (letter : is_word_start (first text) ≡ false) (digit : is_ascii_digit (first text) ≡ false) where
  form-prefix : (j : ℕ) → 0 < j → form_of (take j text) ≡ cond (is_string (take j text)) (Some String) (cond (is_symbol (take j text)) (Some Symbol) None)
  form-prefix j h = form-other (take j text) (ap is_word_start (first-take text j h) ∙ letter) (ap is_ascii_digit (first-take text j h) ∙ digit)

  pub token-string : 0 < string_len text → token_at text ≡ Found String (string_len text)
  token-string some =
      let n = string_len text in
      let t = Takes-string text in
      found text n String some t.within
      (form-prefix n some ∙ cond-true (is_string (take n text)) _ _ (t.passes some))
      (λ j h l. form-prefix j (omega arith) ∙ cond-false (is_string (take j text)) _ _ (t.longer j h l) ∙ cond-false (is_symbol (take j text)) _ _ (string-no-symbol (take j text) (ap is_quote (first-take text j (omega arith)) ∙ string-quote text some)))

  pub token-symbol : string_len text ≡ 0 → 0 < symbol_len text → token_at text ≡ Found Symbol (symbol_len text)
  token-symbol none some =
      let n = symbol_len text in
      let s = Takes-string text in
      let t = Takes-symbol text in
      found text n Symbol some t.within
      (form-prefix n some ∙ cond-false (is_string (take n text)) _ _ (s.longer n (omega arith) t.within) ∙ cond-true (is_symbol (take n text)) _ _ (t.passes some))
      (λ j h l. form-prefix j (omega arith) ∙ cond-false (is_string (take j text)) _ _ (s.longer j (omega arith) l) ∙ cond-false (is_symbol (take j text)) _ _ (t.longer j h l))

  pub token-other : string_len text ≡ 0 → symbol_len text ≡ 0 → token_at text ≡ Found Other (char_len text)
  unfolding token_at
  token-other none nothing =
      let s = Takes-string text in
      let t = Takes-symbol text in
      ap (λ o. token_or_char o (char_len text)) (longest-none text (length text) (λ j h l. form-prefix j h ∙ cond-false (is_string (take j text)) _ _ (s.longer j (omega arith) l) ∙ cond-false (is_symbol (take j text)) _ _ (t.longer j (omega arith) l)))
