-- Quotes that are not closed on their line.
use Rattle.std.proofs.Common.{◌≡◌, take, ℕ, zero, suc, ◌+◌, ◌-◌, ◌<◌, Bool, true, false, not, ◌&&◌, List, [], ◌∷◌, drop, get_or, sym, refl, ap, ◌∙◌, arith, None}
use Rattle.std.proofs.{lemmas.Bool.Decides.{nat_tests}, lemmas.Bool.{cond-true, cond-false, eqb-true}, lemmas.List.{drop-drop, get_or-drop}}
use Rattle.std.specs.{Prelude.{◌==◌}, Char.{is_ascii_digit}}
use Rattle.fb_text.specs.Bytes.{is_blank, is_quote, is_word_start, escape, first}
use Rattle.fb_text.specs.Scan.{AreOpen, NoString, no_quotes, extended, line_rest, reach_of, string_len, symbol_len, through_quote}
use Rattle.fb_text.specs.declared.quotes.OpenQuotes.{OpenQuotes}
use Rattle.fb_text.specs.{Tokens.{char_len, piece_at, token_at}, declared.token.TokenKind.TheVariants.{String, Other}, declared.scan.Piece.TheVariants.{Found}}
use Rattle.fb_text.proofs.{Longest.{by_test}, Pieces.{token-piece}, LongestForms.{first-take, Takes-symbol}}
use Rattle.fb_text.proofs.LongestToken.{string-no-symbol, token-string, token-other}

-- a quote of that kind on the line was escaped, so it closes nothing and opens nothing that is closed
open-after : (quote : ℕ) (escaped : Bool) (bs : List ℕ) (k : ℕ) → through_quote quote escaped bs ≡ None → k < line_rest bs → get_or bs k 0 ≡ quote → through_quote quote false (drop (suc k) bs) ≡ None
unfolding through_quote
open-after quote escaped [] k e h q = absurd (omega arith)
open-after quote escaped (b ∷ bs) zero e h q = grind (arith, nat_tests)
open-after quote escaped (b ∷ bs) (suc k) e h q = grind (arith, nat_tests, open-after quote (not escaped && b == escape) bs k)

pub first-at : (text : List ℕ) (place : ℕ) → first (drop place text) ≡ get_or text place 0
first-at text place = get_or-drop place text 0 0 ∙ ap (λ n. get_or text n 0) (let z : place + 0 ≡ place = omega arith in z)

-- no string begins at an open quote
no-string-at : (bs : List ℕ) → through_quote (first bs) false (drop 1 bs) ≡ None → string_len bs ≡ 0
unfolding string_len
no-string-at [] e = refl
no-string-at (b ∷ bs) e = grind arith

open-at : (bs : List ℕ) → is_quote (first bs) ≡ true → string_len bs ≡ 0 → through_quote (first bs) false (drop 1 bs) ≡ None
unfolding string_len through_quote
open-at [] q e = refl
open-at (b ∷ bs) q e = grind arith

no-string-later : (bs : List ℕ) (k : ℕ) → is_quote (first bs) ≡ true → string_len bs ≡ 0 → k < line_rest bs → get_or bs k 0 ≡ first bs → string_len (drop k bs) ≡ 0
no-string-later bs zero q e h same = e
no-string-later [] (suc k) q e h same = absurd (omega arith)
no-string-later (b ∷ bs) (suc k) q e h same =
    let more : k < line_rest bs = grind arith in
    no-string-at (drop k bs)
    (ap (λ c. through_quote c false (drop 1 (drop k bs))) (first-at bs k ∙ same)
    ∙ ap (through_quote b false) (drop-drop 1 k bs ∙ ap (λ n. drop n bs) (let e : k + 1 ≡ suc k = omega arith in e))
    ∙ open-after b false bs k (open-at (b ∷ bs) q e) more same)

-- behind an open quote no string begins before the line's end
pub open-line : (text : List ℕ) (place : ℕ) → is_quote (get_or text place 0) ≡ true → string_len (drop place text) ≡ 0 → NoString text (get_or text place 0) place (place + line_rest (drop place text))
open-line text place q e k from below same =
    let whole : place + (k - place) ≡ k = omega arith in
    let here = first-at text place in
    ap (λ n. string_len (drop n text)) (sym whole)
    ∙ ap string_len (sym (drop-drop (k - place) place text))
    ∙ no-string-later (drop place text) (k - place) (ap is_quote here ∙ q) e (omega arith)
    (get_or-drop place text (k - place) 0 ∙ ap (λ n. get_or text n 0) whole ∙ same ∙ sym here)

quote-kinds : (b : ℕ) → is_quote b ≡ true → (b == 34) ≡ false → b ≡ 39
unfolding is_quote
quote-kinds b h e = grind (arith, nat_tests)

pub AreOpen-extended : (text : List ℕ) (place : ℕ) (quotes : OpenQuotes) (quote end : ℕ) → is_quote quote ≡ true → AreOpen text place quotes → NoString text quote place end → AreOpen text place (extended quotes quote end)
AreOpen-extended text place quotes quote end q h none =
    by_test (quote == 34)
    (λ t. rw t (record { single = h.single; double = rw (eqb-true quote 34 t) at none }))
    (λ f. rw f (record { single = rw (quote-kinds quote q f) at none; double = h.double }))

pub AreOpen-later : (text : List ℕ) (place n : ℕ) (quotes : OpenQuotes) → AreOpen text place quotes → AreOpen text (place + n) quotes
AreOpen-later text place n quotes h = record {
  single = λ k from. h.single k (omega arith);
  double = λ k from. h.double k (omega arith);
}

pub AreOpen-none : (text : List ℕ) → AreOpen text 0 no_quotes
AreOpen-none text = record {
  single = λ k from below. absurd (omega arith);
  double = λ k from below. absurd (omega arith);
}

-- a quote that is known to be open begins no string
pub known-open : (text : List ℕ) (place : ℕ) (quotes : OpenQuotes) → is_quote (get_or text place 0) ≡ true → AreOpen text place quotes → place < reach_of quotes (get_or text place 0) → string_len (drop place text) ≡ 0
known-open text place quotes q h below =
    let quote = get_or text place 0 in
    by_test (quote == 34)
    (λ t. h.double place (omega arith) (omega (arith, below, cond-true (quote == 34) quotes.double quotes.single t)) (eqb-true quote 34 t))
    (λ f. h.single place (omega arith) (omega (arith, below, cond-false (quote == 34) quotes.double quotes.single f)) (quote-kinds quote q f))

-- a quote is no other token's first byte
quote-only : (b : ℕ) → is_quote b ≡ true → (is_word_start b ≡ false) × (is_ascii_digit b ≡ false)
unfolding is_quote is_word_start
quote-only b h = grind (arith, nat_tests)

quote-no_symbol : (bs : List ℕ) → is_quote (first bs) ≡ true → symbol_len bs ≡ 0
quote-no_symbol bs q = grind (arith, (Takes-symbol bs).passes, string-no-symbol (take (symbol_len bs) bs), first-take bs (symbol_len bs))

pub quote-piece : (bs : List ℕ) → is_quote (first bs) ≡ true → piece_at bs ≡ token_at bs
unfolding is_quote is_blank
quote-piece bs q = token-piece bs (grind (arith, nat_tests)) (λ e. grind (arith, nat_tests)) (λ e. grind (arith, nat_tests))

pub string-piece : (bs : List ℕ) → is_quote (first bs) ≡ true → 0 < string_len bs → piece_at bs ≡ Found String (string_len bs)
string-piece bs q some = quote-piece bs q ∙ token-string bs (quote-only (first bs) q).0 (quote-only (first bs) q).1 some

pub open-piece : (bs : List ℕ) → is_quote (first bs) ≡ true → string_len bs ≡ 0 → piece_at bs ≡ Found Other 1
unfolding is_quote
open-piece bs q none =
    quote-piece bs q
    ∙ token-other bs (quote-only (first bs) q).0 (quote-only (first bs) q).1 none (quote-no_symbol bs q)
    ∙ ap (Found Other) (let one : char_len bs ≡ 1 = grind (arith, nat_tests) in one)
