-- What stands at the front of a text ends between two characters.
use Rattle.std.proofs.Common.{◌≡◌, ◌≢◌, ℕ, zero, suc, ◌+◌, ◌-◌, ◌<◌, ◌≤◌, Bool, true, not, ◌||◌, ltb, List, [], ◌∷◌, ◌++◌, length, get_or, take, drop, sym, refl, ap, subst, ◌∙◌, arith, length-append, length-drop, length-take-le, Option, Some, None, ◌⊎◌, inl, inr, ⊎_elim, lit<}
use Rattle.std.proofs.lemmas.List.Sums.{prefix_len-le-length, prefix_len_stops}
use Rattle.std.proofs.lemmas.Str.{IsCharBoundary-after_ascii, IsCharBoundary-before_ascii, IsCharBoundary-end, IsCharBoundary-at_seam}
use Rattle.std.proofs.{Math.Utf8.{encode, encodes, scalar, scalars}, lemmas.Bool.Decides.{nat_tests}}
use Rattle.std.proofs.{lemmas.Bool.{cond_both, and_parts, eqb-true, ltb-true, cases_lt}, lemmas.List.{get_or-drop, get_or-take, get_or-append-add}, lemmas.Option.{same_Some}}
use Rattle.std.specs.{Prelude.{◌==◌, codes, nat_eq, nat_lt}, List.{prefix_len, starts_with}, Char.{is_ascii_digit}}
use Rattle.std.specs.Str.{IsAscii, IsUtf8, IsCharBoundary, continuation_len}
use Rattle.fb_text.specs.Bytes.{is_blank, is_word_byte, is_number_byte, is_sign, is_exponent_mark, is_quote, hash, escape, first}
use Rattle.fb_text.specs.Forms.{are_some, sign_len, after_sign, is_exponent, is_fraction, is_number_tail, is_number, is_value_byte, are_value_bytes, is_value, is_typed_tail, is_typed, is_date, is_real, leading_word, after_word, is_string, is_string_rest, is_symbol, is_symbol_byte, is_symbol_pair, form_of, HasForm}
use Rattle.fb_text.specs.Tokens.{of_kind, longest, token_or_char, token_at, char_len, before_close, comment_at, piece_at, IsPrefix, FitsIn, IsLongest}
use Rattle.fb_text.specs.declared.token.TokenKind.TheVariants.{Word, Number, Typed, String, Symbol, Other}
use Rattle.fb_text.specs.{declared.token.TokenKind.{TokenKind}, declared.scan.Piece.TheVariants.{Gap, Unclosed, Found}}
use Rattle.fb_text.proofs.{NameLemmas.{is_word_byte-ascii, is_word-ascii, list_all-ascii}, Longest.{by_test}, LongestForms.{prefix_len-pos}, ScanLemmas.{closes-at}}
use Rattle.fb_text.proofs.LongestToken.{any-byte, any-pair}

-- all bytes are ASCII
ascii-nil : IsAscii []
ascii-nil i = lit< tt

ascii-cons : (b : ℕ) (bs : List ℕ) → b < 128 → IsAscii bs → IsAscii (b ∷ bs)
ascii-cons b bs h k zero = h
ascii-cons b bs h k (suc i) = k i

ascii-some : (p : ℕ → Bool) → ((b : ℕ) → p b ≡ true → b < 128) → (bs : List ℕ) → are_some p bs ≡ true → IsAscii bs
ascii-some p low [] h = ascii-nil
ascii-some p low (b ∷ bs) h = list_all-ascii p low (b ∷ bs) h

ascii-run : (p : ℕ → Bool) → ((b : ℕ) → p b ≡ true → b < 128) → (bs : List ℕ) → IsAscii (drop (prefix_len p bs) bs) → IsAscii bs
ascii-run p low [] h = ascii-nil
ascii-run p low (b ∷ bs) h =
    by_test (p b)
    (λ e. let one : 1 + prefix_len p bs ≡ suc (prefix_len p bs) = omega arith in ascii-cons b bs (low b e) (ascii-run p low bs (rw (e, one) at h)))
    (λ e. rw e at h)

ascii-sign : (bs : List ℕ) → IsAscii (after_sign bs) → IsAscii bs
unfolding sign_len is_sign
ascii-sign [] h = ascii-nil
ascii-sign (b ∷ bs) h =
    by_test (b == 43 || b == 45)
    (λ e. ascii-cons b bs (grind (arith, nat_tests)) (rw e at h))
    (λ e. rw e at h)

digit-low : (b : ℕ) → is_ascii_digit b ≡ true → b < 128
digit-low b h = grind (arith, nat_tests)

exponent-ascii : (bs : List ℕ) → is_exponent bs ≡ true → IsAscii bs
unfolding is_exponent is_exponent_mark
exponent-ascii [] h = ascii-nil
exponent-ascii (b ∷ bs) h = ascii-cons b bs (grind (arith, nat_tests)) (ascii-sign bs (ascii-some is_ascii_digit digit-low (after_sign bs) (grind arith)))

fraction-ascii : (bs : List ℕ) → is_fraction bs ≡ true → IsAscii bs
unfolding is_fraction
fraction-ascii bs h = ascii-run is_ascii_digit digit-low bs (exponent-ascii (drop (prefix_len is_ascii_digit bs) bs) (grind arith))

tail-ascii : (bs : List ℕ) → is_number_tail bs ≡ true → IsAscii bs
unfolding is_number_tail
tail-ascii [] h = ascii-nil
tail-ascii (b ∷ bs) h =
    by_test (b == hash)
    (λ e. ascii-cons b bs (omega (arith, eqb-true b hash e)) (ascii-some is_word_byte is_word_byte-ascii bs (rw e at h)))
    (λ e. ascii-cons b bs (grind (arith, nat_tests)) (fraction-ascii bs (grind arith)))

number-ascii : (bs : List ℕ) → is_number bs ≡ true → IsAscii bs
unfolding is_number is_number_byte
number-ascii bs h = ascii-run is_number_byte (λ b low. grind (arith, nat_tests)) bs (tail-ascii (drop (prefix_len is_number_byte bs) bs) (grind arith))

values-ascii : (date real : Bool) (before : ℕ) (bs : List ℕ) → are_value_bytes date real before bs ≡ true → IsAscii bs
unfolding are_value_bytes is_value_byte is_word_byte is_sign
values-ascii date real before [] h = ascii-nil
values-ascii date real before (b ∷ bs) h =
    let parts = and_parts (is_value_byte date real before b (first bs)) (are_value_bytes date real b bs) h in
    ascii-cons b bs (grind (arith, nat_tests, parts.0)) (values-ascii date real b bs parts.1)

value-ascii : (date real : Bool) (bs : List ℕ) → is_value date real bs ≡ true → IsAscii bs
unfolding is_value
value-ascii date real [] h = ascii-nil
value-ascii date real (b ∷ bs) h = values-ascii date real hash (b ∷ bs) h

typed-tail-ascii : (date real : Bool) (bs : List ℕ) → is_typed_tail date real bs ≡ true → IsAscii bs
unfolding is_typed_tail
typed-tail-ascii date real [] h = ascii-nil
typed-tail-ascii date real (b ∷ bs) h = ascii-cons b bs (grind (arith, nat_tests)) (ascii-sign bs (value-ascii date real (after_sign bs) (grind arith)))

typed-ascii : (bs : List ℕ) → is_typed bs ≡ true → IsAscii bs
unfolding is_typed
typed-ascii bs h =
    ascii-run is_word_byte is_word_byte-ascii bs (typed-tail-ascii (is_date (leading_word bs)) (is_real (leading_word bs)) (after_word bs) (grind arith))

-- the last byte is ASCII
abbrev EndsAscii : List ℕ → Type 0
EndsAscii bs = get_or bs (length bs - 1) 0 < 128

ends-behind : (b : ℕ) (bs : List ℕ) → 0 < length bs → EndsAscii bs → EndsAscii (b ∷ bs)
ends-behind b [] some h = absurd (omega arith)
ends-behind b (c ∷ cs) some h = let e : suc (suc (length cs)) - 1 ≡ suc (suc (length cs) - 1) = omega arith in rw e h

rest-some : (quote : ℕ) (bs : List ℕ) → is_string_rest quote bs ≡ true → 0 < length bs
unfolding is_string_rest
rest-some quote [] h = cc
rest-some quote (b ∷ bs) h = omega arith

string-rest-ends : (quote : ℕ) (bs : List ℕ) → quote < 128 → is_string_rest quote bs ≡ true → EndsAscii bs
unfolding is_string_rest
string-rest-ends quote [] low h = cc
string-rest-ends quote (b ∷ []) low h = omega (arith, eqb-true b quote h)
string-rest-ends quote (b ∷ c ∷ cs) low h =
    by_test (b == escape)
    (λ e.
    let rest : is_string_rest quote cs ≡ true = grind arith in
    ends-behind b (c ∷ cs) (omega arith) (ends-behind c cs (rest-some quote cs rest) (string-rest-ends quote cs low rest)))
    (λ e. ends-behind b (c ∷ cs) (omega arith) (string-rest-ends quote (c ∷ cs) low (grind arith)))

string-ends : (bs : List ℕ) → is_string bs ≡ true → EndsAscii bs
unfolding is_string is_quote
string-ends [] h = cc
string-ends (b ∷ bs) h =
    let rest : is_string_rest b bs ≡ true = grind arith in
    ends-behind b bs (rest-some b bs rest) (string-rest-ends b bs (grind (arith, nat_tests)) rest)

symbol-ends : (bs : List ℕ) → is_symbol bs ≡ true → EndsAscii bs
unfolding is_symbol is_symbol_byte is_symbol_pair
symbol-ends [] h = cc
symbol-ends (a ∷ []) h = omega (arith, ltb-true a 128 (any-byte (λ b. nat_lt b 128) (codes ";:,.()[]=<>+-*/&") a h refl))
symbol-ends (a ∷ b ∷ []) h = omega (arith, ltb-true b 128 (any-pair (λ s. nat_lt (first (drop 1 s)) 128) (codes ":=" ∷ codes "<=" ∷ codes ">=" ∷ codes "<>" ∷ codes "**" ∷ codes "->" ∷ codes ".." ∷ []) a b h refl))
symbol-ends (a ∷ b ∷ c ∷ cs) h = cc

-- what has a form is of its kind
form-kind : (bs : List ℕ) (kind : TokenKind) → form_of bs ≡ Some kind → HasForm kind bs
unfolding form_of
form-kind bs Word h = grind arith
form-kind bs Number h = grind arith
form-kind bs Typed h = grind arith
form-kind bs String h = grind arith
form-kind bs Symbol h = grind arith
form-kind bs Other h = tt

-- a token with a form ends in ASCII
form-ends : (bs : List ℕ) (kind : TokenKind) → form_of bs ≡ Some kind → EndsAscii bs
unfolding form_of
form-ends bs Word h = is_word-ascii bs (form-kind bs Word h) (length bs - 1)
form-ends bs Number h = number-ascii bs (form-kind bs Number h) (length bs - 1)
form-ends bs Typed h = typed-ascii bs (form-kind bs Typed h) (length bs - 1)
form-ends bs String h = string-ends bs (form-kind bs String h)
form-ends bs Symbol h = symbol-ends bs (form-kind bs Symbol h)
form-ends bs Other h = absurd (grind arith)

-- what the longest prefix is
pub record IsFound (text : List ℕ) (m : ℕ) (found : TokenKind × ℕ) : Type 0 where
  pub some : 0 < found.1
  pub within : found.1 ≤ m
  pub form : form_of (take found.1 text) ≡ Some found.0
  pub longer : (j : ℕ) → found.1 < j → j ≤ m → form_of (take j text) ≡ None

found-case : (o : Option TokenKind) (text : List ℕ) (m : ℕ) (found : TokenKind × ℕ) → form_of (take (suc m) text) ≡ o → of_kind o (suc m) (longest m text) ≡ Some found → (longest m text ≡ Some found → IsFound text m found) → IsFound text (suc m) found
found-case None text m found e h shorter =
    let before = shorter h in
    record {
      some = before.some;
      within = omega (arith, before.within);
      form = before.form;
      longer = λ j k l.
          ⊎_elim (λ below. before.longer j k (omega arith)) (λ above. let last : j ≡ suc m = omega arith in ap (λ i. form_of (take i text)) last ∙ e) (cases_lt j (suc m));
    }
found-case (Some kind) text m found e h shorter =
    let same = same_Some (kind, suc m) found h in
    subst (IsFound text (suc m)) same (record { some = omega arith; within = omega arith; form = e; longer = λ j k l. absurd (omega arith) })

pub longest-is : (m : ℕ) (text : List ℕ) (found : TokenKind × ℕ) → longest m text ≡ Some found → IsFound text m found
unfolding longest
longest-is zero text found h = cc
longest-is (suc m) text found h = found-case (form_of (take (suc m) text)) text m found refl h (longest-is m text found)

-- a character's first byte tells how many bytes follow
pub record TellsLength (xs : List ℕ) : Type 0 where
  pub tells : (ys : List ℕ) → continuation_len (get_or (xs ++ ys) 0 0) + 1 ≡ length xs

encode-tells : (c : ℕ) → TellsLength (encode c)
unfolding encode
encode-tells c =
    cond_both (ltb c 128) _ _ TellsLength
    (λ e. record { tells = λ ys. grind (arith, nat_tests, ltb-true c 128 e) })
    (λ a. cond_both (ltb c 2048) _ _ TellsLength
    (λ e. record { tells = λ ys. grind (arith, nat_tests, ltb-true c 2048 e) })
    (λ b. cond_both (ltb c 65536) _ _ TellsLength
    (λ e. record { tells = λ ys. grind (arith, nat_tests, ltb-true c 65536 e) })
    (λ d. record { tells = λ ys. grind (arith, nat_tests) })))

char-case : (cs text : List ℕ) → scalars cs ≡ true → encodes cs ≡ text → 0 < length text → IsCharBoundary text (char_len text)
char-case [] text valid spells pos = absurd (omega (arith, ap length spells))
char-case (c ∷ cs) text valid spells pos =
    let long = ap (λ xs. continuation_len (get_or xs 0 0) + 1) (sym spells) ∙ (encode-tells c).tells (encodes cs) in
    subst (IsCharBoundary text) (sym long) (IsCharBoundary-at_seam text (encode c) (encodes cs) (sym spells) (cs, ((and_parts (scalar c) (scalars cs) valid).1, refl)))

-- behind an ASCII byte
after-ascii : (text : List ℕ) (n : ℕ) → IsUtf8 text → 0 < n → n ≤ length text → get_or text (n - 1) 0 < 128 → IsPrefix text n
after-ascii text n utf8 pos l low =
    let back : n - 1 + 1 ≡ n = omega arith in
    record { some = pos; ends = subst (IsCharBoundary text) back (IsCharBoundary-after_ascii text (n - 1) utf8 (omega arith) low) }

found-fits : (text : List ℕ) (o : Option (TokenKind × ℕ)) → IsUtf8 text → 0 < length text → longest (length text) text ≡ o → FitsIn text (token_or_char o (char_len text))
found-fits text (Some found) utf8 pos e =
    let is = longest-is (length text) text found e in
    let long : length (take found.1 text) ≡ found.1 = length-take-le found.1 text is.within in
    let last : get_or (take found.1 text) (length (take found.1 text) - 1) 0 ≡ get_or text (found.1 - 1) 0 = ap (λ n. get_or (take found.1 text) (n - 1) 0) long ∙ get_or-take found.1 text (found.1 - 1) 0 (omega (arith, is.some)) in
    after-ascii text found.1 utf8 is.some is.within (omega (arith, last, form-ends (take found.1 text) found.0 is.form))
found-fits text None utf8 pos e = record { some = omega arith; ends = char-case utf8.0 text utf8.1.0 utf8.1.1 pos }

-- the texts that begin with two bytes
pub record BeginsWith (a b : ℕ) (text : List ℕ) : Type 0 where
  pub long : 2 ≤ length text
  pub first : get_or text 0 0 ≡ a
  pub second : get_or text 1 0 ≡ b

pub begins : (a b : ℕ) (text : List ℕ) → starts_with nat_eq text (a ∷ b ∷ []) ≡ true → BeginsWith a b text
begins a b [] h = cc
begins a b (x ∷ []) h = grind arith
begins a b (x ∷ y ∷ text) h = record { long = omega arith; first = grind (arith, nat_tests); second = grind (arith, nat_tests) }

-- a comment is closed by an ASCII byte
comment-case : (text : List ℕ) (o : Option ℕ) → IsUtf8 text → 2 ≤ length text → before_close (drop 2 text) ≡ o → FitsIn text (elim o [ Some n ↦ Gap (n + 4) | None ↦ Unclosed ])
comment-case text None utf8 long e = tt
comment-case text (Some n) utf8 long e =
    let rest = drop 2 text in
    let at = closes-at rest n e in
    let front : length (take n rest) ≡ n = length-take-le n rest at.within in
    let fits : n + 4 ≤ length text = omega (arith, front, ap length at.parts, length-append (take n rest) (codes "*)" ++ drop (suc (suc n)) rest), length-drop 2 text) in
    let place : n + 4 - 1 ≡ 2 + (n + 1) = omega arith in
    let index : n + 1 ≡ length (take n rest) + 1 = omega (arith, front) in
    let last : get_or text (n + 4 - 1) 0 ≡ 41 = ap (λ k. get_or text k 0) place ∙ sym (get_or-drop 2 text (n + 1) 0) ∙ (λ i. get_or (at.parts i) (index i) 0)
    ∙ get_or-append-add (take n rest) (codes "*)" ++ drop (suc (suc n)) rest) 1 0 in
    after-ascii text (n + 4) utf8 (omega arith) fits (omega (arith, last))

line-fits : (text : List ℕ) → starts_with nat_eq text (codes "//") ≡ true → IsPrefix text (prefix_len (λ b. not (b == 10)) text)
line-fits text e =
    let prefix = begins 47 47 text e in
    let p : ℕ → Bool = λ b. not (b == 10) in
    let n = prefix_len p text in
    record {
      some = prefix_len-pos p text (omega (arith, prefix.long)) (ap p prefix.first);
      ends = ⊎_elim
          (λ below. IsCharBoundary-before_ascii text n below (grind (arith, nat_tests, prefix_len_stops p text 0 below)))
          (λ above. let all : n ≡ length text = omega (arith, prefix_len-le-length p text) in subst (IsCharBoundary text) (sym all) (IsCharBoundary-end text))
          (cases_lt n (length text));
    }

-- what stands at the front of a text ends between two characters
pub piece-fits : (text : List ℕ) → IsUtf8 text → 0 < length text → FitsIn text (piece_at text)
unfolding piece_at token_at comment_at is_blank
piece-fits text utf8 pos =
    cond_both (is_blank (first text)) _ _ (FitsIn text)
    (λ e. after-ascii text 1 utf8 (omega arith) pos (grind (arith, nat_tests)))
    (λ n. cond_both (starts_with nat_eq text (codes "(*")) _ _ (FitsIn text) (λ e. comment-case text (before_close (drop 2 text)) utf8 (begins 40 42 text e).long refl)
    (λ m. cond_both (starts_with nat_eq text (codes "//")) _ _ (FitsIn text) (line-fits text) (λ t. found-fits text (longest (length text) text) utf8 pos refl)))

-- a token that was found is the longest prefix with a form, or is of the kind `Other`
is-found : (text : List ℕ) (kind : TokenKind) (n : ℕ) (o : Option (TokenKind × ℕ)) → longest (length text) text ≡ o → token_or_char o (char_len text) ≡ Found kind n → (kind ≡ Other) ⊎ IsFound text (length text) (kind, n)
is-found text kind n None e h = inl cc
is-found text kind n (Some found) e h =
    let kinds : found.0 ≡ kind = cc in
    let lens : found.1 ≡ n = cc in
    inr (rw (← kinds, ← lens) (longest-is (length text) text found e))

-- a token of another kind than `Other` is the longest prefix that has a form
pub longest-token : (text : List ℕ) (kind : TokenKind) (n : ℕ) → token_at text ≡ Found kind n → kind ≢ Other → IsLongest text kind n
unfolding token_at
longest-token text kind n h other =
    ⊎_elim (λ same. absurd (other same)) (λ (is : IsFound text (length text) (kind, n)). record { within = is.within; form = is.form; longer = is.longer })
    (is-found text kind n (longest (length text) text) refl h)

-- the token at the front has the form of its kind
pub piece-spelled : (text : List ℕ) (kind : TokenKind) (n : ℕ) → piece_at text ≡ Found kind n → HasForm kind (take n text)
unfolding piece_at token_at comment_at
piece-spelled text kind n =
    cond_both (is_blank (first text)) (Gap 1) _ (λ p. p ≡ Found kind n → HasForm kind (take n text)) (λ e h. cc)
    (λ a. cond_both (starts_with nat_eq text (codes "(*")) _ _ (λ p. p ≡ Found kind n → HasForm kind (take n text)) (λ e h. grind arith)
    (λ b. cond_both (starts_with nat_eq text (codes "//")) (Gap (prefix_len (λ c. not (c == 10)) text)) _ (λ p. p ≡ Found kind n → HasForm kind (take n text)) (λ e h. cc)
    (λ c h. ⊎_elim (λ same. rw same tt) (λ (is : IsFound text (length text) (kind, n)). form-kind (take n text) kind is.form) (is-found text kind n (longest (length text) text) refl h))))
