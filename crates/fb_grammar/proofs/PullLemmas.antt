-- Tokens as they are pulled from a text one by one.
use Rattle.std.proofs.Common.{◌≡◌, ◌≢◌, ℕ, zero, suc, ◌+◌, ◌-◌, ◌<◌, ◌≤◌, Bool, true, false, not, List, [], ◌∷◌, length, drop, take, get_or, refl, sym, ap, subst, ◌∙◌, arith, add-zero, drop-cons, length-drop, None, Option, Some, true≢false, IsUtf8}
use Rattle.std.proofs.{lemmas.Bool.{and_parts, cond-true, cond-false, not-true}, lemmas.List.{drop-drop, drop_all, get_or_past}}
use Rattle.std.proofs.{lemmas.Option.{none-some, same_Some}, lemmas.Str.{IsCharBoundary-end, IsCharBoundary-from_rest, IsUtf8-drop}}
use Rattle.std.specs.{Prelude.{◌==◌, codes, nat_eq, nat_lt, slice_range, if◌then◌else◌}, List.{list_any, list_all, prefix_len}, Cmp.Lexicographic.{pointwise}}
use Rattle.std.specs.{Map.{lookup}, Str.{IsCharBoundary}}
use Rattle.fb_tree.specs.{Text.Bytes.{first, hash, is_blank, is_word_byte, is_word_start}, Text.Elementary.{type_class_of}}
use Rattle.fb_tree.specs.{Text.Forms.{HasForm, is_symbol_byte, same_word}, Text.Reads.{token_of}, Text.Scan.{AreOpen, typed_len}}
use Rattle.fb_tree.specs.{Text.Tokens.{FitsIn, piece_at}, Text.Words.{is_word}, Text.declared.elementary.TypeClass.{TypeClass}}
use Rattle.fb_tree.specs.{Text.declared.scan.Piece.{Piece}, Text.declared.scan.Piece.TheVariants.{Gap, Unclosed, Found}}
use Rattle.fb_tree.specs.{Text.declared.quotes.OpenQuotes.{OpenQuotes}, Text.declared.token.Span.{Span}, Text.declared.token.Token.{Token}}
use Rattle.fb_tree.specs.Text.declared.token.TokenKind.{TokenKind}
use Rattle.fb_tree.specs.Text.declared.elementary.TypeClass.TheVariants as class
use Rattle.fb_tree.specs.Text.declared.token.TokenKind.TheVariants as found
use Rattle.fb_tree.proofs.{Text.Boundaries.{piece-fits, piece-spelled}, Text.Longest.{by_test}, Text.LongestToken.{any-byte}, Text.NameLemmas.{name_of-word}}
use Rattle.fb_tree.proofs.{Text.OpenLines.{AreOpen-later, first-at}, Text.Pieces.{begins_pair, blank-piece, no-typed, symbol-piece, typed-piece, word-piece}}
use Rattle.fb_grammar.specs.declared.kind.Kind.{Kind}
use Rattle.fb_grammar.specs.declared.kind.Kind.TheVariants.{End, Name, NameIn, NameOn, NameSt, NeverClosed, Number, One, Other, RealNumber, Zero}
use Rattle.fb_grammar.specs.Kind.{is_among, name_kinds}
use Rattle.fb_grammar.specs.Lexemes.{kind_of, kind_or, lexeme_of, literal_kind, name_kind, name_or, number_kind, symbol_kind, type_name, typed_kind, word_kind}
use Rattle.fb_grammar.specs.Upcoming.{are_over, closing_at, front, is_lone, lone_symbol, pulled_before, pulled_from}
use Rattle.fb_grammar.specs.{ReservedWords.{keyword, reserved_words, symbol, symbols}, Pulled.{IsFront, IsNext, IsSpelling, pulled_at}}
use Rattle.fb_grammar.proofs.NameWords.{names}

-- the bytes inside a piece are passed over
skip : (text : List ℕ) (k place : ℕ) (xs : List ℕ) → pulled_from text k place xs ≡ pulled_from text 0 (place + k) (drop k xs)
unfolding pulled_from
skip text zero place xs = ap (λ n. pulled_from text 0 n xs) (sym (add-zero place))
skip text (suc k) place [] = refl
skip text (suc k) place (b ∷ bs) = skip text k (place + 1) bs ∙ ap (λ n. pulled_from text 0 n (drop k bs)) (let e : place + 1 + k ≡ place + suc k = omega arith in e)

inside : (text : List ℕ) (n place b : ℕ) (bs : List ℕ) → 0 < n → pulled_from text (n - 1) (place + 1) bs ≡ pulled_from text 0 (place + n) (drop n (b ∷ bs))
inside text zero place b bs h = absurd (omega arith)
inside text (suc n) place b bs h =
    skip text (suc n - 1) (place + 1) bs
    ∙ ap (λ m. pulled_from text 0 (place + 1 + m) (drop m bs)) (let e : suc n - 1 ≡ n = omega arith in e)
    ∙ ap (λ m. pulled_from text 0 m (drop n bs)) (let e : place + 1 + n ≡ place + suc n = omega arith in e)

step : (text : List ℕ) (place b : ℕ) (bs : List ℕ) (piece : Piece) → piece_at (b ∷ bs) ≡ piece → pulled_from text 0 place (b ∷ bs) ≡ pulled_before text place piece (λ n. pulled_from text (n - 1) (place + 1) bs)
unfolding pulled_from
step text place b bs piece e = ap (λ p. pulled_before text place p (λ n. pulled_from text (n - 1) (place + 1) bs)) e

gap-step : (text : List ℕ) (place : ℕ) (rest : List ℕ) (n : ℕ) → 0 < length rest → 0 < n → piece_at rest ≡ Gap n → pulled_from text 0 place rest ≡ pulled_from text 0 (place + n) (drop n rest)
gap-step text place [] n pos some e = absurd (omega arith)
gap-step text place (b ∷ bs) n pos some e = step text place b bs (Gap n) e ∙ inside text n place b bs some

unclosed-step : (text : List ℕ) (place : ℕ) (rest : List ℕ) → 0 < length rest → piece_at rest ≡ Unclosed → pulled_from text 0 place rest ≡ closing_at NeverClosed place (length text) ∷ []
unclosed-step text place [] pos e = absurd (omega arith)
unclosed-step text place (b ∷ bs) pos e = step text place b bs Unclosed e

found-step : (text : List ℕ) (place : ℕ) (rest : List ℕ) (kind : TokenKind) (n : ℕ) → 0 < length rest → 0 < n → piece_at rest ≡ Found kind n → pulled_from text 0 place rest ≡ lexeme_of text (token_of kind place n) ∷ pulled_from text 0 (place + n) (drop n rest)
found-step text place [] kind n pos some e = absurd (omega arith)
found-step text place (b ∷ bs) kind n pos some e = step text place b bs (Found kind n) e ∙ ap (λ ts. lexeme_of text (token_of kind place n) ∷ ts) (inside text n place b bs some)

-- the kinds of what is behind all tokens
abbrev pub is_last : Kind → Bool
is_last kind = is_among (End ∷ NeverClosed ∷ []) kind

abbrev is_token : Kind → Bool
is_token kind = not (is_last kind)

found-token : (test : List ℕ → Bool) (es : List (List ℕ × Kind)) (kind : Kind) → list_all (λ e. is_token e.1) es ≡ true → lookup test es ≡ Some kind → is_token kind ≡ true
found-token test [] kind all h = absurd (none-some kind h)
found-token test (e ∷ es) kind all h =
    let parts = and_parts (is_token e.1) (list_all (λ f. is_token f.1) es) all in
    by_test (test e.0)
    (λ t. ap is_token (sym (same_Some e.1 kind (sym (cond-true (test e.0) (Some e.1) (lookup test es) t) ∙ h))) ∙ parts.0)
    (λ f. found-token test es kind parts.1 (sym (cond-false (test e.0) (Some e.1) (lookup test es) f) ∙ h))

kind_or-token : (o : Option Kind) (default : Kind) → ((kind : Kind) → o ≡ Some kind → is_token kind ≡ true) → is_token default ≡ true → is_token (kind_or o default) ≡ true
kind_or-token None default h other = other
kind_or-token (Some kind) default h other = h kind refl

either-token : (b : Bool) (x y : Kind) → is_token x ≡ true → is_token y ≡ true → is_token (if b then x else y) ≡ true
either-token true x y p q = p
either-token false x y p q = q

literal-token : (c : TypeClass) → is_token (literal_kind c) ≡ true
literal-token class.Truth = refl
literal-token class.Integer = refl
literal-token class.Bits = refl
literal-token class.Free = refl
literal-token class.Other = refl

word-token : (word : List ℕ) → is_token (word_kind word) ≡ true
unfolding word_kind name_kind keyword
word-token word =
    kind_or-token (keyword word) (name_kind word) (λ kind h. found-token (same_word word) reserved_words kind refl h)
    (either-token (nat_lt 64 (length word)) Other _ refl
    (either-token (same_word word (codes "IN")) NameIn _ refl (either-token (same_word word (codes "ON")) NameOn _ refl (either-token (same_word word (codes "ST")) NameSt Name refl refl))))

number-token : (bytes : List ℕ) → is_token (number_kind bytes) ≡ true
unfolding number_kind
number-token bytes =
    either-token (pointwise nat_eq bytes (codes "0")) Zero _ refl
    (either-token (pointwise nat_eq bytes (codes "1")) One _ refl (either-token (list_any (λ b. b == 46) bytes) RealNumber Number refl refl))

typed-token : (bytes : List ℕ) → is_token (typed_kind bytes) ≡ true
unfolding typed_kind
typed-token bytes = literal-token (type_class_of (type_name bytes))

symbol-token : (bytes : List ℕ) → is_token (symbol_kind bytes) ≡ true
unfolding symbol_kind symbol
symbol-token bytes = kind_or-token (symbol bytes) Other (λ kind h. found-token (pointwise nat_eq bytes) symbols kind refl h) refl

kind-token : (token : TokenKind) (bytes : List ℕ) → is_token (kind_of token bytes) ≡ true
unfolding kind_of
kind-token found.Word bytes = word-token bytes
kind-token found.Number bytes = number-token bytes
kind-token found.Typed bytes = typed-token bytes
kind-token found.String bytes = refl
kind-token found.Symbol bytes = symbol-token bytes
kind-token found.Other bytes = refl

-- no token is of the kind of what is behind all tokens
pub lexeme-not_last : (text : List ℕ) (token : Token) → is_last (lexeme_of text token).kind ≡ false
unfolding lexeme_of
lexeme-not_last text token = let bytes = slice_range text token.span.start token.span.end in not-true (is_last (kind_of token.kind bytes)) (kind-token token.kind bytes)

-- what is pulled if nothing is left
end-pulled : (text : List ℕ) (place : ℕ) → length text ≤ place → pulled_at text place ≡ closing_at End (length text) (length text) ∷ []
unfolding pulled_from
end-pulled text place done = ap (pulled_from text 0 place) (drop_all place text done)

module _ (text : List ℕ) (place : ℕ) (left : place < length text) where
  some-left : 0 < length (drop place text)
  some-left = omega (arith, length-drop place text)

  -- a gap is passed
  pub gap-pulled : (n : ℕ) → 0 < n → piece_at (drop place text) ≡ Gap n → pulled_at text place ≡ pulled_at text (place + n)
  gap-pulled n some e = gap-step text place (drop place text) n some-left some e ∙ ap (pulled_from text 0 (place + n)) (drop-drop n place text)

  unclosed-pulled : piece_at (drop place text) ≡ Unclosed → pulled_at text place ≡ closing_at NeverClosed place (length text) ∷ []
  unclosed-pulled e = unclosed-step text place (drop place text) some-left e

  found-pulled : (kind : TokenKind) (n : ℕ) → 0 < n → piece_at (drop place text) ≡ Found kind n → pulled_at text place ≡ lexeme_of text (token_of kind place n) ∷ pulled_at text (place + n)
  found-pulled kind n some e =
      found-step text place (drop place text) kind n some-left some e ∙ ap (λ bs. lexeme_of text (token_of kind place n) ∷ pulled_from text 0 (place + n) bs) (drop-drop n place text)

-- The first of what is pulled, if it is a token, and what follows it.
module _ (text : List ℕ) (place : ℕ) (utf8 : IsUtf8 text) (starts : IsCharBoundary text place) (left : place < length text) where
  fits : (piece : Piece) → piece_at (drop place text) ≡ piece → FitsIn (drop place text) piece
  fits piece e = subst (FitsIn (drop place text)) e (piece-fits (drop place text) (IsUtf8-drop text place utf8 starts) (some-left text place left))

  -- a gap is passed, up to a place between characters
  pub after-gap : (n : ℕ) → piece_at (drop place text) ≡ Gap n → (pulled_at text place ≡ pulled_at text (place + n)) × IsCharBoundary text (place + n) × (0 < n)
  after-gap n e = let prefix = fits (Gap n) e in (gap-pulled text place left n prefix.some e, IsCharBoundary-from_rest text place n (omega arith) prefix.ends, prefix.some)

  spelling-of : (kind : TokenKind) (n : ℕ) → piece_at (drop place text) ≡ Found kind n → is_among name_kinds (lexeme_of text (token_of kind place n)).kind ≡ true → IsSpelling (slice_range text place (place + n)) (lexeme_of text (token_of kind place n)).name
  unfolding lexeme_of
  spelling-of kind n e h =
      let bytes = slice_range text place (place + n) in
      let is = (names kind bytes).0 h in
      let size : n ≡ place + n - place = omega arith in
      let form : HasForm kind bytes = subst (λ k. HasForm kind (take k (drop place text))) size (piece-spelled (drop place text) kind n e) in
      let word : is_word bytes ≡ true = subst (λ k. HasForm k bytes) is.0 form in
      record { word = word; short = is.1; name = sym (ap (λ r. name_or r (codes "_")) (name_of-word bytes word is.1)) }

  token-front : (kind : TokenKind) (n : ℕ) → piece_at (drop place text) ≡ Found kind n → IsFront text (lexeme_of text (token_of kind place n)).kind (record { start = place; end = place + n })
  unfolding lexeme_of
  token-front kind n e =
      let token = lexeme_of text (token_of kind place n) in
      let prefix = fits (Found kind n) e in
      let pulled = found-pulled text place left kind n prefix.some e in
      record {
        some = omega (arith, ap length pulled);
        kind = ap (λ ts. (front ts).kind) pulled;
        place = ap (λ ts. (front ts).span) pulled;
        spelled = λ h. subst (λ ts. IsSpelling (slice_range text place (place + n)) (front ts).name) (sym pulled) (spelling-of kind n e h);
        following = λ h. ap (drop 1) (sym pulled);
        last = λ h. absurd (true≢false (sym h ∙ ap are_over pulled ∙ lexeme-not_last text (token_of kind place n)));
        rises = omega arith;
        starts = starts;
        ends = IsCharBoundary-from_rest text place n (omega arith) prefix.ends;
      }

  pub found-front : (kind : TokenKind) (n : ℕ) (bytes : List ℕ) → piece_at (drop place text) ≡ Found kind n → bytes ≡ take n (drop place text) → IsFront text (kind_of kind bytes) (record { start = place; end = place + n })
  unfolding lexeme_of
  found-front kind n bytes e same =
      subst (λ bs. IsFront text (kind_of kind bs) (record { start = place; end = place + n })) (ap (λ k. take k (drop place text)) (let size : place + n - place ≡ n = omega arith in size) ∙ sym same) (token-front kind n e)

  pub unclosed-front : piece_at (drop place text) ≡ Unclosed → IsFront text NeverClosed (record { start = place; end = length text })
  unclosed-front e =
      let pulled = unclosed-pulled text place left e in
      record {
        some = omega (arith, ap length pulled);
        kind = ap (λ ts. (front ts).kind) pulled;
        place = ap (λ ts. (front ts).span) pulled;
        spelled = λ h. absurd (true≢false (sym h));
        following = λ h. absurd (true≢false (sym (ap are_over pulled) ∙ h));
        last = λ h. ap (drop 1) pulled;
        rises = omega arith;
        starts = starts;
        ends = IsCharBoundary-end text;
      }

-- the end of a text
pub end-front : (text : List ℕ) → IsFront text End (record { start = length text; end = length text })
end-front text =
    let pulled = end-pulled text (length text) (omega arith) in
    record {
      some = omega (arith, ap length pulled);
      kind = ap (λ ts. (front ts).kind) pulled;
      place = ap (λ ts. (front ts).span) pulled;
      spelled = λ h. absurd (true≢false (sym h));
      following = λ h. absurd (true≢false (sym (ap are_over pulled) ∙ h));
      last = λ h. ap (drop 1) pulled;
      rises = omega arith;
      starts = IsCharBoundary-end text;
      ends = IsCharBoundary-end text;
    }

one-at : (text : List ℕ) (place : ℕ) → place < length text → get_or text place 0 ∷ [] ≡ take 1 (drop place text)
one-at text place left = sym (ap (take 1) (drop-cons text place 0 left))

-- symbols that begin nothing longer
lone-symbol : (b : ℕ) → is_lone b ≡ true → is_symbol_byte b ≡ true
unfolding is_symbol_byte
lone-symbol b h = any-byte is_symbol_byte (codes ";,)[]=+&") b h refl

lone-alone : (b : ℕ) → is_lone b ≡ true → begins_pair b ≡ false
lone-alone b h = not-true (begins_pair b) (any-byte (λ s. not (begins_pair s)) (codes ";,)[]=+&") b h refl)

lone-no_comment : (b c : ℕ) → is_lone c ≡ false → is_lone b ≡ true → b ≢ c
lone-no_comment b c other h e = true≢false (sym h ∙ ap is_lone e ∙ other)

pub lone-is : (b : ℕ) (kind : Kind) → lone_symbol b ≡ Some kind → (is_lone b ≡ true) × (kind ≡ symbol_kind (b ∷ []))
unfolding symbol_kind
lone-is b kind h =
    by_test (is_lone b)
    (λ t. (t, sym (ap (λ o. kind_or o Other) (sym (cond-true (is_lone b) (symbol (b ∷ [])) None t) ∙ h))))
    (λ f. absurd (none-some kind (sym (cond-false (is_lone b) (symbol (b ∷ [])) None f) ∙ h)))

pub lone-piece : (bs : List ℕ) → 0 < length bs → is_lone (first bs) ≡ true → piece_at bs ≡ Found found.Symbol 1
lone-piece bs some h = symbol-piece bs some (lone-symbol (first bs) h) (lone-alone (first bs) h) (lone-no_comment (first bs) 40 refl h) (lone-no_comment (first bs) 47 refl h)

-- the word or typed literal at a place
module _ (text : List ℕ) (place : ℕ) (utf8 : IsUtf8 text) (starts : IsCharBoundary text place) (left : place < length text) (letter : is_word_start (get_or text place 0) ≡ true) where
  first-letter : is_word_start (first (drop place text)) ≡ true
  first-letter = ap is_word_start (first-at text place) ∙ letter

  pub word-front : (rest : List ℕ) (n : ℕ) (bytes : List ℕ) → rest ≡ drop place text → n ≡ prefix_len is_word_byte rest → typed_len rest ≡ 0 → bytes ≡ take n rest → IsFront text (word_kind bytes) (record { start = place; end = place + n })
  unfolding kind_of
  word-front rest n bytes e size none same =
      found-front text place utf8 starts left found.Word n bytes
      (word-piece (drop place text) (some-left text place left) first-letter (ap typed_len (sym e) ∙ none) ∙ ap (Found found.Word) (ap (prefix_len is_word_byte) (sym e) ∙ sym size)) (same ∙ ap (take n) e)

  pub typed-front : (rest : List ℕ) (word n : ℕ) (bytes : List ℕ) → rest ≡ drop place text → word ≡ prefix_len is_word_byte rest → n ≡ typed_len rest → 0 < n → bytes ≡ take (word + n) rest → IsFront text (kind_of found.Typed bytes) (record { start = place; end = place + (word + n) })
  typed-front rest word n bytes e word_is size some same =
      let len : typed_len (drop place text) ≡ n = ap typed_len (sym e) ∙ sym size in
      found-front text place utf8 starts left found.Typed (word + n) bytes
      (typed-piece (drop place text) first-letter (omega (arith, len)) ∙ (λ i. Found found.Typed ((ap (prefix_len is_word_byte) (sym e) ∙ sym word_is) i + len i))) (same ∙ ap (take (word + n)) e)

-- a word that no `#` follows begins no typed literal
pub no_hash : (rest : List ℕ) (word : ℕ) → word ≡ prefix_len is_word_byte rest → get_or rest word 0 ≢ hash → typed_len rest ≡ 0
no_hash rest word e h = no-typed rest (λ same. h (ap (λ n. get_or rest n 0) e ∙ sym (first-at rest (prefix_len is_word_byte rest)) ∙ same))

pub nothing_follows : (rest : List ℕ) (word : ℕ) → word ≡ prefix_len is_word_byte rest → length rest ≤ word → typed_len rest ≡ 0
nothing_follows rest word e h = no_hash rest word e (λ same. let none = get_or_past rest word 0 h in let never : 0 ≡ 35 = sym none ∙ same in omega arith)

-- What the loop has passed over: what is pulled is the same from where it began.
pub record HasPassed (text : List ℕ) (from place : ℕ) (quotes : OpenQuotes) : Type 0 where
  pub same : pulled_at text from ≡ pulled_at text place
  pub boundary : IsCharBoundary text place
  pub are_open : AreOpen text place quotes

AreOpen-end : (text : List ℕ) (place end : ℕ) (quotes : OpenQuotes) → place ≤ end → AreOpen text place quotes → AreOpen text end quotes
AreOpen-end text place end quotes h known = subst (λ n. AreOpen text n quotes) (let back : place + (end - place) ≡ end = omega arith in back) (AreOpen-later text place (end - place) quotes known)

module _ (text : List ℕ) (from place : ℕ) (quotes later : OpenQuotes) (passed : HasPassed text from place quotes) (known : AreOpen text place later) where
  -- the token at the place, or what is behind all tokens, is the next
  pub next : (kind : Kind) (span : Span) → span.start ≡ place → IsFront text kind span → IsNext text from kind span later
  next kind span start found = record {
    passed = passed.same ∙ ap (pulled_at text) (sym start);
    front = found;
    are_open = AreOpen-end text place span.end later (omega (arith, found.rises)) known;
  }

  pub passed-gap : (n : ℕ) → IsUtf8 text → place < length text → piece_at (drop place text) ≡ Gap n → HasPassed text from (place + n) later
  passed-gap n utf8 left e =
      let after = after-gap text place utf8 passed.boundary left n e in
      record { same = passed.same ∙ after.0; boundary = after.1; are_open = AreOpen-later text place n later known }

  pub next-found : (kind : TokenKind) (n : ℕ) (bytes : List ℕ) → IsUtf8 text → place < length text → piece_at (drop place text) ≡ Found kind n → bytes ≡ take n (drop place text) → IsNext text from (kind_of kind bytes) (record { start = place; end = place + n }) later
  next-found kind n bytes utf8 left e same = next (kind_of kind bytes) (record { start = place; end = place + n }) refl (found-front text place utf8 passed.boundary left kind n bytes e same)

  pub next-unclosed : IsUtf8 text → place < length text → piece_at (drop place text) ≡ Unclosed → IsNext text from NeverClosed (record { start = place; end = length text }) later
  next-unclosed utf8 left e = next NeverClosed (record { start = place; end = length text }) refl (unclosed-front text place utf8 passed.boundary left e)

  pub next-end : length text ≤ place → IsNext text from End (record { start = length text; end = length text }) later
  next-end done = next End (record { start = length text; end = length text }) (omega (arith, passed.boundary.0)) (end-front text)

  pub next-symbol : (kind : Kind) → IsUtf8 text → place < length text → lone_symbol (get_or text place 0) ≡ Some kind → IsNext text from kind (record { start = place; end = place + 1 }) later
  unfolding kind_of
  next-symbol kind utf8 left e =
      let here = first-at text place in
      let is = lone-is (get_or text place 0) kind e in
      let piece = lone-piece (drop place text) (some-left text place left) (ap is_lone here ∙ is.0) in
      subst (λ k. IsNext text from k (record { start = place; end = place + 1 }) later) (sym is.1)
      (next-found found.Symbol 1 (get_or text place 0 ∷ []) utf8 left piece (one-at text place left))

pub passed-blank : (text : List ℕ) (from place : ℕ) (quotes : OpenQuotes) → IsUtf8 text → place < length text → HasPassed text from place quotes → is_blank (get_or text place 0) ≡ true → HasPassed text from (place + 1) quotes
passed-blank text from place quotes utf8 left passed blank = passed-gap text from place quotes quotes passed passed.are_open 1 utf8 left (blank-piece (drop place text) (ap is_blank (first-at text place) ∙ blank))
