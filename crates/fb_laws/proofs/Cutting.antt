-- The tokens of a part of a text that begins and ends where tokens do.
use Rattle.fb_laws.proofs.Common.{◌≡◌, ℕ, ◌+◌, ◌-◌, ◌<◌, ◌≤◌, List, [], ◌∷◌, ◌++◌, length, take, drop, map, refl, sym, ap, ◌∙◌, subst, arith, append_assoc, length-append, length-drop, length-take-le, take-append-drop, None, Result, Ok, slice_range, drop-append-add, continuation_len, drop-append-le, drop-drop, nil_from_length, take-append-le, first, is_word_start, form_of, is_number, is_typed, is_string, is_symbol, is_word, IsLongest, char_len, tokens_of, with_token, Span, Token, TokenKind, Other, codes, drop_at, take_at}
use Rattle.fb_text.specs.Reads.{AtBlank, AtComment, AtEnd, AtLineComment, AtOpenComment, AtOther, AtToken, BeginsToken, HasNoForm, IsFirstClose, Reads, token_of}
use Rattle.fb_text.proofs.Relation.{reads-one, reads-tokens}
use Rattle.fb_laws.proofs.Lists.{nothing_split}

-- Tokens one after the other

abbrev pub Rising : ℕ → List Token → Type 0
Rising from [] = Unit {0}
Rising from (t ∷ ts) = (from ≤ t.span.start) × (t.span.start < t.span.end) × Rising t.span.end ts

-- the last of them ends there; without tokens this is the place before them
abbrev pub LastEnds : ℕ → List Token → ℕ → Type 0
LastEnds from [] end = end ≡ from
LastEnds from (t ∷ ts) end = LastEnds t.span.end ts end

pub last_rises : (from : ℕ) (ts : List Token) (end : ℕ) → Rising from ts → LastEnds from ts end → from ≤ end
last_rises from [] end r l = omega (arith, l)
last_rises from (t ∷ ts) end r l = omega (arith, r.0, r.1, last_rises t.span.end ts end r.2 l)

rising_prefix : (from : ℕ) (ts us : List Token) → Rising from (ts ++ us) → Rising from ts
rising_prefix from [] us r = tt
rising_prefix from (t ∷ ts) us r = (r.0, r.1, rising_prefix t.span.end ts us r.2)

rising_from : (from later : ℕ) (ts : List Token) → from ≤ later → Rising later ts → Rising from ts
rising_from from later [] h r = tt
rising_from from later (t ∷ ts) h r = (omega (arith, h, r.0), r.1, r.2)

-- the tokens after the first
rest_of : (token : Token) (following : Result (List Token) Span) (ts : List Token) → with_token token following ≡ Ok ts → (us : List Token) × (ts ≡ token ∷ us) × (following ≡ Ok us)
rest_of token following ts e = grind arith

form_nil : form_of [] ≡ None
unfolding form_of is_word is_number is_typed is_word_start is_string is_symbol
form_nil = refl

some_bytes : (text : List ℕ) (kind : TokenKind) (n : ℕ) → IsLongest text kind n → 0 < n
some_bytes text kind n is = grind (arith, form_nil)

-- Parts of a text

-- what both parts of a text begin with
prefix : (us rest xs ys : List ℕ) → us ++ rest ≡ xs ++ ys → length us ≤ length xs → (xs ≡ us ++ drop (length us) xs) × (rest ≡ drop (length us) xs ++ ys)
prefix us rest xs ys e h =
    let n = length us in
    let front = sym (take-append-le n xs ys h) ∙ sym (ap (take n) e) ∙ take_at us rest n refl in
    (sym (take-append-drop n xs) ∙ ap (λ (l : List ℕ). l ++ drop n xs) front, sym (drop_at us rest n refl) ∙ ap (drop n) e ∙ drop-append-le n xs ys h)

first_same : (xs ys : List ℕ) → 0 < length xs → first (xs ++ ys) ≡ first xs
first_same [] ys h = absurd (omega arith)
first_same (x ∷ xs) ys h = refl

begins_token : (xs ys : List ℕ) → 0 < length xs → BeginsToken (xs ++ ys) → BeginsToken xs
begins_token xs ys some h = grind (arith, first_same)

longest_in : (xs ys : List ℕ) (kind : TokenKind) (n : ℕ) → n ≤ length xs → IsLongest (xs ++ ys) kind n → IsLongest xs kind n
longest_in xs ys kind n within is = grind (arith, take-append-le, length-append)

no_form_in : (xs ys : List ℕ) → HasNoForm (xs ++ ys) → HasNoForm xs
no_form_in xs ys none = λ n l. ap form_of (sym (take-append-le n xs ys l)) ∙ none n (omega (arith, l, length-append xs ys))

first_close : (after inside rest behind ys : List ℕ) → rest ≡ behind ++ ys → IsFirstClose after inside rest → IsFirstClose (inside ++ (codes "*)" ++ behind)) inside behind
first_close after inside rest behind ys e close = record {
  parts = refl;
  earliest = λ prefix back same.
      close.earliest prefix (back ++ ys)
      (close.parts ∙ ap (λ z. inside ++ (codes "*)" ++ z)) e
      ∙ sym (append_assoc inside (codes "*)" ++ behind) ys) ∙ ap (λ z. z ++ ys) same ∙ append_assoc prefix (codes "*)" ++ back) ys);
}

-- Cuts

-- a token that is this number of bytes nearer to the start
abbrev pub nearer_token : ℕ → Token → Token
nearer_token d t = record { kind = t.kind; span = record { start = t.span.start - d; end = t.span.end - d } }

-- Texts by gaps and tokens

-- blanks and comments of n bytes, which are passed before each part of what follows them
abbrev Passes : ℕ → List ℕ → List ℕ → Type 0
Passes n us rest = (p : ℕ) (zs ys : List ℕ) (reading : Result (List Token) Span) → rest ≡ zs ++ ys → Reads (p + n) zs reading → Reads p (us ++ zs) reading

-- a token of n bytes, with which each part of the text begins that has it
abbrev Starts : ℕ → TokenKind → List ℕ → Type 0
Starts n kind text = (p : ℕ) (xs ys : List ℕ) (following : Result (List Token) Span) → text ≡ xs ++ ys → n ≤ length xs → Reads (p + n) (drop n xs) following → Reads p xs (with_token (token_of kind p n) following)

data Walks : ℕ → List ℕ → List Token → Type 0 where
  Ends : {q : ℕ} {text : List ℕ} {ts : List Token} → text ≡ [] → ts ≡ [] → Walks q text ts
  Gap : {q : ℕ} {text : List ℕ} {ts : List Token} (n : ℕ) (us rest : List ℕ)
      → n ≡ length us → text ≡ us ++ rest → Passes n us rest → Walks (q + n) rest ts → Walks q text ts
  Then : {q : ℕ} {text : List ℕ} {ts : List Token} (n : ℕ) (kind : TokenKind) (others : List Token)
      → 0 < n → Starts n kind text → ts ≡ token_of kind q n ∷ others → Walks (q + n) (drop n text) others → Walks q text ts

walks : {q : ℕ} {text : List ℕ} {reading : Result (List Token) Span} → Reads q text reading → (ts : List Token) → reading ≡ Ok ts → Walks q text ts
walks (AtEnd e r) ts h = Ends e (let same : ts ≡ [] = cc in same)
walks (AtBlank b rest e is more) ts h = Gap 1 (b ∷ []) rest (omega arith) e (λ p zs ys reading s again. AtBlank b zs refl is again) (walks more ts h)
walks {q} {text} (AtComment after inside rest e close more) ts h =
    let comment = codes "(*" ++ (inside ++ codes "*)") in
    let whole : text ≡ comment ++ rest = e ∙ ap (λ z. codes "(*" ++ z) (close.parts ∙ sym (append_assoc inside (codes "*)") rest)) in
    Gap (length inside + 4) comment rest (omega (arith, length-append inside (codes "*)"))) whole
    (λ p zs ys reading s again. AtComment (inside ++ (codes "*)" ++ zs)) inside zs (ap (λ z. codes "(*" ++ z) (append_assoc inside (codes "*)") zs)) (first_close after inside rest zs ys s close) again)
    (walks more ts h)
walks (AtOpenComment after e never r) ts h = cc
walks (AtLineComment line rest e all ends more) ts h =
    Gap (length line + 2) (codes "//" ++ line) rest (omega arith) e (λ p zs ys reading s again. AtLineComment line zs refl all (grind arith) again) (walks more ts h)
walks {q} {text} (AtToken kind n following begins is more r) ts h =
    let o = rest_of (token_of kind q n) following ts (sym r ∙ h) in
    let pos = some_bytes text kind n is in
    Then n kind o.0 pos
    (λ p xs ys f e within again. AtToken kind n f (begins_token xs ys (omega (arith, pos, within)) (subst BeginsToken e begins)) (longest_in xs ys kind n within (subst (λ (z : List ℕ). IsLongest z kind n) e is)) again refl)
    o.1 (walks more o.0 o.2)
walks {q} {text} (AtOther following begins none more r) ts h =
    let o = rest_of (token_of Other q (char_len text)) following ts (sym r ∙ h) in
    Then (char_len text) Other o.0 (omega arith)
    (λ p xs ys f e within again.
    let some : 0 < length xs = omega (arith, within) in
    let same : char_len text ≡ char_len xs = ap (λ (b : ℕ). continuation_len b + 1) (ap first e ∙ first_same xs ys some) in
    AtOther f (begins_token xs ys some (subst BeginsToken e begins)) (no_form_in xs ys (subst HasNoForm e none)) (subst (λ (k : ℕ). Reads (p + k) (drop k xs) f) same again)
    (ap (λ (k : ℕ). with_token (token_of Other p k) f) same))
    o.1 (walks more o.0 o.2)

rising : {q : ℕ} {text : List ℕ} {ts : List Token} → Walks q text ts → Rising q ts
rising {q} (Ends e r) = subst (Rising q) (sym r) tt
rising {q} {ts = ts} (Gap n us rest is e pass more) = rising_from q (q + n) ts (omega arith) (rising more)
rising {q} (Then n kind others pos starts e more) = subst (Rising q) (sym e) (omega arith, omega arith, rising more)

-- Cuts

cut_none : (p q : ℕ) (xs : List ℕ) → q + length xs ≡ q → Reads p xs (Ok [])
cut_none p q xs e = AtEnd (nil_from_length xs (omega (arith, e))) refl

-- what a cut has to be shown of: the text in two parts, the tokens of the first and then others, and where the first ends
record Cut (p d q : ℕ) (text : List ℕ) (all : List Token) (xs ys : List ℕ) (inside behind : List Token) : Type 0 where
  shift : q ≡ p + d
  parts : text ≡ xs ++ ys
  tokens : all ≡ inside ++ behind
  last : LastEnds q inside (q + length xs)

cut : {q : ℕ} {text : List ℕ} {all : List Token} → Walks q text all → (p d : ℕ) (xs ys : List ℕ) (inside behind : List Token) → Cut p d q text all xs ys inside behind → Reads p xs (Ok (map (nearer_token d) inside))
cut {q} (Ends e r) p d xs ys [] behind c = cut_none p q xs c.last
cut (Ends e r) p d xs ys (t ∷ ts) behind c = (let both = sym r ∙ c.tokens in cc)
cut {q} (Gap n us rest is e pass more) p d xs ys [] behind c = cut_none p q xs c.last
cut {q} {text} (Gap n us rest is e pass more) p d xs ys (t ∷ ts) behind c =
    let rise = subst (Rising (q + n)) c.tokens (rising more) in
    let later = last_rises t.span.end ts (q + length xs) (rising_prefix t.span.end ts behind rise.2) c.last in
    let fits : length us ≤ length xs = omega (arith, is, later, rise.0, rise.1) in
    let pre = prefix us rest xs ys (sym e ∙ c.parts) fits in
    let zs = drop (length us) xs in
    let len : q + length xs ≡ q + n + length zs = omega (arith, is, fits, length-drop (length us) xs) in
    subst (λ (z : List ℕ). Reads p z (Ok (map (nearer_token d) (t ∷ ts)))) (sym pre.0)
    (pass p zs ys (Ok (map (nearer_token d) (t ∷ ts))) pre.1
    (cut more (p + n) d zs ys (t ∷ ts) behind (record { shift = omega (arith, c.shift); parts = pre.1; tokens = c.tokens; last = subst (LastEnds t.span.end ts) len c.last })))
cut {q} (Then n kind others pos starts e more) p d xs ys [] behind c = cut_none p q xs c.last
cut {q} {text} (Then n kind others pos starts e more) p d xs ys (t ∷ ts) behind c =
    let both = sym e ∙ c.tokens in
    let head : token_of kind q n ≡ t = cc in
    let tail : others ≡ ts ++ behind = cc in
    let last = subst (λ (u : Token). LastEnds u.span.end ts (q + length xs)) (sym head) c.last in
    let later = last_rises (q + n) ts (q + length xs) (rising_prefix (q + n) ts behind (subst (Rising (q + n)) tail (rising more))) last in
    let within : n ≤ length xs = omega (arith, later) in
    let len : q + length xs ≡ q + n + length (drop n xs) = omega (arith, within, length-drop n xs) in
    let again = cut more (p + n) d (drop n xs) ys ts behind (record { shift = omega (arith, c.shift); parts = ap (drop n) c.parts ∙ drop-append-le n xs ys within; tokens = tail; last = subst (LastEnds (q + n) ts) len last }) in
    subst (λ (u : Token). Reads p xs (Ok (u ∷ map (nearer_token d) ts))) (sym (grind arith) ∙ ap (nearer_token d) head)
    (starts p xs ys (Ok (map (nearer_token d) ts)) c.parts within again)

-- The place of a token

-- the text that is left at the place of a token
record Reached (q : ℕ) (text : List ℕ) (t : Token) (others : List Token) : Type 0 where
  len : ℕ
  place : q + len ≡ t.span.start
  left : Walks t.span.start (drop len text) (t ∷ others)

reached_gap : (us rest : List ℕ) (n q : ℕ) (text : List ℕ) (t : Token) (others : List Token) → n ≡ length us → text ≡ us ++ rest → Reached (q + n) rest t others → Reached q text t others
reached_gap us rest n q text t others is e h = grind (arith, drop-append-add)

reached_token : (n q : ℕ) (text : List ℕ) (t : Token) (others : List Token) → Reached (q + n) (drop n text) t others → Reached q text t others
reached_token n q text t others h = record { len = n + h.len; place = omega (arith, h.place); left = subst (λ (z : List ℕ). Walks t.span.start z (t ∷ others)) (drop-drop h.len n text) h.left }

reach : {q : ℕ} {text : List ℕ} {all : List Token} → Walks q text all → (before : List Token) (t : Token) (others : List Token) → all ≡ before ++ t ∷ others → Reached q text t others
reach (Ends e r) before t others h = absurd (nothing_split before t others (sym r ∙ h))
reach {q} {text} (Gap n us rest is e pass more) before t others h = reached_gap us rest n q text t others is e (reach more before t others h)
reach {q} {text} (Then n kind us pos starts e more) [] t others h =
    let both = sym e ∙ h in
    let head : token_of kind q n ≡ t = cc in
    let at : q ≡ t.span.start = ap (λ (u : Token). u.span.start) head in
    record { len = 0; place = omega (arith, at); left = subst (λ (k : ℕ). Walks k text (t ∷ others)) at (subst (Walks q text) h (Then n kind us pos starts e more)) }
reach {q} {text} (Then n kind us pos starts e more) (u ∷ before) t others h =
    let both = sym e ∙ h in
    let tail : us ≡ before ++ t ∷ others = cc in
    reached_token n q text t others (reach more before t others tail)

-- The tokens of a text from the start of one of them to the end of that one or a later one

pub rising_inside : (text : List ℕ) (before inside behind : List Token) (t : Token) → tokens_of text ≡ Ok (before ++ ((t ∷ inside) ++ behind)) → Rising t.span.start (t ∷ inside)
rising_inside text before inside behind t e =
    rising_prefix t.span.start (t ∷ inside) behind (rising (reach (walks (reads-tokens text) (before ++ ((t ∷ inside) ++ behind)) e) before t (inside ++ behind) refl).left)

pub tokens_alone : (text : List ℕ) (before inside behind : List Token) (t : Token) (end : ℕ) → tokens_of text ≡ Ok (before ++ ((t ∷ inside) ++ behind)) → LastEnds t.span.start (t ∷ inside) end → end ≤ length text
    → tokens_of (slice_range text t.span.start end) ≡ Ok (map (nearer_token t.span.start) (t ∷ inside))
tokens_alone text before inside behind t end e last within =
    let s = t.span.start in
    let reached = reach (walks (reads-tokens text) (before ++ ((t ∷ inside) ++ behind)) e) before t (inside ++ behind) refl in
    let at : reached.len ≡ s = omega (arith, reached.place) in
    let here = subst (λ (k : ℕ). Walks s (drop k text) (t ∷ (inside ++ behind))) at reached.left in
    let above = last_rises s (t ∷ inside) end (rising_inside text before inside behind t e) last in
    let xs = take (end - s) (drop s text) in
    let len : length xs ≡ end - s = length-take-le (end - s) (drop s text) (omega (arith, within, length-drop s text)) in
    let ends : end ≡ s + length xs = omega (arith, above, len) in
    sym (reads-one xs (Ok (map (nearer_token s) (t ∷ inside)))
    (cut here 0 s xs (drop (end - s) (drop s text)) (t ∷ inside) behind
    (record { shift = omega arith; parts = sym (take-append-drop (end - s) (drop s text)); tokens = refl; last = subst (LastEnds s (t ∷ inside)) ends last })))
