-- The relation of reading and the function that reads are one.
use Rattle.std.proofs.Common.{◌≡◌, ◌≢◌, ℕ, zero, suc, ◌+◌, ◌<◌, ◌≤◌, Bool, true, false, not, List, [], ◌∷◌, ◌++◌, length, take, drop, codes, nat_eq, sym, refl, ap, subst, ◌∙◌, arith, length-drop, length-append, length-take-le, take-append-drop, Option, Some, None, Result, Ok, Err, ⊎_elim}
use Rattle.std.proofs.{Math.Seq.{drop-append-add}, lemmas.Bool.{both_ways, cond-true, cases_lt}, lemmas.Bool.Decides.{Decides-eqb, nat_tests}}
use Rattle.std.proofs.{lemmas.List.Elements.{All-nil, All-cons, All-head, All-tail}, lemmas.Option.{none-some, same_Some}, lemmas.Slice.Eq.{starts_is}}
use Rattle.std.specs.{Prelude.{◌==◌, All, option_map}, List.{prefix_len, starts_with}}
use Rattle.fb_text.specs.{Bytes.{is_blank, is_word_start, first}, Words.{is_word}, Forms.{form_of, is_number, is_typed, is_string, is_symbol}}
use Rattle.fb_text.specs.Tokens.{IsLongest, before_close, char_len, comment_at, longest, piece_at, token_at, token_or_char, tokens_from, tokens_of, with_token}
use Rattle.fb_text.specs.Reads.{AtBlank, AtComment, AtEnd, AtLineComment, AtOpenComment, AtOther, AtToken, BeginsToken, EndsLine, HasNoForm, IsFirstClose, NeverCloses, Reads, token_of}
use Rattle.fb_text.specs.{declared.token.Span.{Span}, declared.token.Token.{Token}, declared.token.TokenKind.{TokenKind}}
use Rattle.fb_text.specs.{declared.token.TokenKind.TheVariants.{Other}, declared.scan.Piece.{Piece}, declared.scan.Piece.TheVariants.{Gap, Unclosed}}
use Rattle.fb_text.proofs.{Boundaries.{longest-is}, Longest.{by_test}, LongestToken.{found, longest-none}, Pieces.{blank-piece}, ScanLemmas.{starts, closes-at}, Reading.{found-step, gap-step, unclosed-step}}

-- prefixes
starting : (needle text rest : List ℕ) → text ≡ needle ++ rest → starts_with nat_eq text needle ≡ true
starting needle text rest e = (starts_is Decides-eqb text needle (starts_with nat_eq text needle) refl).1 rest e

not-starting : (needle text : List ℕ) → ((rest : List ℕ) → text ≢ needle ++ rest) → starts_with nat_eq text needle ≡ false
not-starting needle text h = by_test (starts_with nat_eq text needle) (λ t. absurd (h (drop (length needle) text) (starts needle text t))) (λ f. f)

-- the first `*)`
close-by : (prefix back : List ℕ) → (n : ℕ) × (before_close (prefix ++ (codes "*)" ++ back)) ≡ Some n) × (n ≤ length prefix)
unfolding before_close
close-by [] back = (0, refl, omega arith)
close-by (b ∷ prefix) back =
    let later = close-by prefix back in
    by_test (starts_with nat_eq (b ∷ (prefix ++ (codes "*)" ++ back))) (codes "*)"))
    (λ t. (0, rw t, omega arith))
    (λ f. (suc later.0, rw f (ap (option_map suc) later.1), omega (arith, later.2)))

never : (text : List ℕ) → before_close text ≡ None → NeverCloses text
never text e prefix back is =
    let close = close-by prefix back in
    none-some close.0 (sym e ∙ ap before_close is ∙ close.1)

first-close : (text : List ℕ) (n : ℕ) → before_close text ≡ Some n → IsFirstClose text (take n text) (drop (suc (suc n)) text)
first-close text n e =
    let at = closes-at text n e in
    record {
      parts = at.parts;
      earliest = λ prefix back is.
          let close = close-by prefix back in
          let same = same_Some n close.0 (sym e ∙ ap before_close is ∙ close.1) in
          omega (arith, same, close.2, length-take-le n text at.within);
    }

first-len : (text inside rest : List ℕ) → IsFirstClose text inside rest → before_close text ≡ Some (length inside)
first-len text inside rest h =
    let close = close-by inside rest in
    let is = ap before_close h.parts ∙ close.1 in
    let at = closes-at text close.0 is in
    let later = h.earliest (take close.0 text) (drop (suc (suc close.0)) text) at.parts in
    is ∙ ap Some (omega (arith, later, close.2, length-take-le close.0 text at.within))

never-none : (text : List ℕ) (o : Option ℕ) → before_close text ≡ o → NeverCloses text → before_close text ≡ None
never-none text None e h = e
never-none text (Some n) e h = absurd (h (take n text) (drop (suc (suc n)) text) (closes-at text n e).parts)

-- lines
abbrev in_line : ℕ → Bool
in_line b = not (b == 10)

line-len : (line rest : List ℕ) → All (λ b. b ≢ 10) line → EndsLine rest → prefix_len in_line (line ++ rest) ≡ length line
line-len [] [] a e = refl
line-len [] (b ∷ bs) a e = grind (arith, nat_tests)
line-len (b ∷ line) rest a e = grind (arith, nat_tests, line-len line rest (All-tail (λ c. c ≢ 10) b line a) e, All-head (λ c. c ≢ 10) b line a)

one-more : (b : ℕ) (bs : List ℕ) → in_line b ≡ true → prefix_len in_line (b ∷ bs) ≡ suc (prefix_len in_line bs)
one-more b bs h = cond-true (in_line b) (1 + prefix_len in_line bs) 0 h ∙ omega arith

line-all : (xs : List ℕ) → All (λ b. b ≢ 10) (take (prefix_len in_line xs) xs)
line-all [] = All-nil (λ b. b ≢ 10)
line-all (b ∷ bs) =
    by_test (in_line b)
    (λ t. rw (one-more b bs t) (All-cons (λ c. c ≢ 10) b (take (prefix_len in_line bs) bs) (λ e. grind (arith, nat_tests)) (line-all bs)))
    (λ f. rw f (All-nil (λ c. c ≢ 10)))

line-ends : (xs : List ℕ) → EndsLine (drop (prefix_len in_line xs) xs)
line-ends [] = tt
line-ends (b ∷ bs) =
    by_test (in_line b)
    (λ t. rw (one-more b bs t) (line-ends bs))
    (λ f. rw f (grind (arith, nat_tests)))

-- what stands at the front
abbrev closing : Option ℕ → Piece
closing o = elim o [ Some n ↦ Gap (n + 4) | None ↦ Unclosed ]

comment-piece : (text after : List ℕ) → text ≡ codes "(*" ++ after → piece_at text ≡ closing (before_close after)
unfolding piece_at comment_at is_blank
comment-piece text after e = rw e

line-piece : (text rest : List ℕ) → text ≡ codes "//" ++ rest → piece_at text ≡ Gap (prefix_len in_line rest + 2)
unfolding piece_at is_blank
line-piece text rest e = rw e (ap Gap (omega (arith, one-more 47 rest refl)))

token-piece : (text : List ℕ) → BeginsToken text → piece_at text ≡ token_at text
unfolding piece_at
token-piece text h = rw (h.no_blank, not-starting (codes "(*") text h.no_comment, not-starting (codes "//") text h.no_line_comment)

-- steps of reading
some-bytes : (text : List ℕ) → text ≢ [] → 0 < length text
some-bytes [] h = absurd (h refl)
some-bytes (b ∷ bs) h = omega arith

form-nil : form_of [] ≡ None
unfolding form_of is_word is_number is_typed is_word_start is_string is_symbol
form-nil = refl

end-step : (place : ℕ) → tokens_from 0 place [] ≡ Ok []
unfolding tokens_from
end-step place = refl

blank-step : (place : ℕ) (text : List ℕ) (b : ℕ) (rest : List ℕ) → text ≡ b ∷ rest → is_blank b ≡ true → tokens_from 0 place text ≡ tokens_from 0 (place + 1) rest
blank-step place text b rest e t =
    gap-step place text 1 (omega (arith, ap length e)) (omega arith) (blank-piece text (ap (λ x. is_blank (first x)) e ∙ t)) ∙ ap (λ x. tokens_from 0 (place + 1) (drop 1 x)) e

comment-drop : (text after inside rest : List ℕ) → text ≡ codes "(*" ++ after → after ≡ inside ++ (codes "*)" ++ rest) → drop (length inside + 4) text ≡ rest
comment-drop text after inside rest e parts =
    let more : length inside + 4 ≡ suc (suc (length inside + 2)) = omega arith in
    rw (e, more, parts) (drop-append-add inside (codes "*)" ++ rest) 2)

comment-step : (place : ℕ) (text after inside rest : List ℕ) → text ≡ codes "(*" ++ after → IsFirstClose after inside rest → tokens_from 0 place text ≡ tokens_from 0 (place + (length inside + 4)) rest
comment-step place text after inside rest e close =
    gap-step place text (length inside + 4) (omega (arith, ap length e)) (omega arith) (comment-piece text after e ∙ ap closing (first-len after inside rest close))
    ∙ ap (tokens_from 0 (place + (length inside + 4))) (comment-drop text after inside rest e close.parts)

open-step : (place : ℕ) (text after : List ℕ) → text ≡ codes "(*" ++ after → NeverCloses after → tokens_from 0 place text ≡ Err (record { start = place; end = place + length text })
open-step place text after e h = unclosed-step place text (omega (arith, ap length e)) (comment-piece text after e ∙ ap closing (never-none after (before_close after) refl h))

line-step : (place : ℕ) (text line rest : List ℕ) → text ≡ codes "//" ++ (line ++ rest) → All (λ b. b ≢ 10) line → EndsLine rest → tokens_from 0 place text ≡ tokens_from 0 (place + (length line + 2)) rest
line-step place text line rest e all ends =
    let more : length line + 2 ≡ suc (suc (length line + 0)) = omega arith in
    gap-step place text (length line + 2) (omega (arith, ap length e)) (omega arith) (line-piece text (line ++ rest) e ∙ ap (λ n. Gap (n + 2)) (line-len line rest all ends))
    ∙ ap (tokens_from 0 (place + (length line + 2))) (rw (e, more) (drop-append-add line rest 0))

token-step : (place : ℕ) (text : List ℕ) (kind : TokenKind) (n : ℕ) → BeginsToken text → IsLongest text kind n → tokens_from 0 place text ≡ with_token (token_of kind place n) (tokens_from 0 (place + n) (drop n text))
token-step place text kind zero begins is = absurd (none-some kind (sym form-nil ∙ is.form))
token-step place text kind (suc n) begins is =
    found-step place text kind (suc n) (some-bytes text begins.some) (omega arith) (token-piece text begins ∙ found text (suc n) kind (omega arith) is.within is.form is.longer)

other-step : (place : ℕ) (text : List ℕ) → BeginsToken text → HasNoForm text → tokens_from 0 place text ≡ with_token (token_of Other place (char_len text)) (tokens_from 0 (place + char_len text) (drop (char_len text) text))
unfolding token_at
other-step place text begins none =
    found-step place text Other (char_len text) (some-bytes text begins.some) (omega arith)
    (token-piece text begins ∙ ap (λ o. token_or_char o (char_len text)) (longest-none text (length text) (λ j h k. none j k)))

-- a reading is the one that the function gives
pub reads-is : {place : ℕ} {text : List ℕ} {reading : Result (List Token) Span} → Reads place text reading → reading ≡ tokens_from 0 place text
reads-is {place} (AtEnd e r) = r ∙ sym (ap (tokens_from 0 place) e ∙ end-step place)
reads-is {place} {text} (AtBlank b rest e t more) = reads-is more ∙ sym (blank-step place text b rest e t)
reads-is {place} {text} (AtComment after inside rest e close more) = reads-is more ∙ sym (comment-step place text after inside rest e close)
reads-is {place} {text} (AtOpenComment after e h r) = r ∙ sym (open-step place text after e h)
reads-is {place} {text} (AtLineComment line rest e all ends more) = reads-is more ∙ sym (line-step place text line rest e all ends)
reads-is {place} {text} (AtToken kind n following begins is more r) = r ∙ ap (with_token (token_of kind place n)) (reads-is more) ∙ sym (token-step place text kind n begins is)
reads-is {place} {text} (AtOther following begins none more r) = r ∙ ap (with_token (token_of Other place (char_len text))) (reads-is more) ∙ sym (other-step place text begins none)

-- and the function gives a reading
abbrev Later : ℕ → Type 0
Later m = (place : ℕ) (rest : List ℕ) → length rest ≤ m → Reads place rest (tokens_from 0 place rest)

head-tail : (text : List ℕ) → 0 < length text → text ≡ first text ∷ drop 1 text
head-tail [] h = absurd (omega arith)
head-tail (b ∷ bs) h = refl

comment-reads : (m place : ℕ) (text after : List ℕ) (o : Option ℕ) → length text ≤ suc m → text ≡ codes "(*" ++ after → before_close after ≡ o → Later m → Reads place text (tokens_from 0 place text)
comment-reads m place text after None l e is more = AtOpenComment after e (never after is) (open-step place text after e (never after is))
comment-reads m place text after (Some n) l e is more =
    let inside = take n after in
    let rest = drop (suc (suc n)) after in
    let close = first-close after n is in
    let shorter : length rest ≤ m = omega (arith, l, ap length e, ap length close.parts, length-append inside (codes "*)" ++ rest)) in
    AtComment after inside rest e close
    (subst (Reads (place + (length inside + 4)) rest) (sym (comment-step place text after inside rest e close)) (more (place + (length inside + 4)) rest shorter))

line-reads : (m place : ℕ) (text after : List ℕ) → length text ≤ suc m → text ≡ codes "//" ++ after → Later m → Reads place text (tokens_from 0 place text)
line-reads m place text after l e more =
    let n = prefix_len in_line after in
    let line = take n after in
    let rest = drop n after in
    let whole : text ≡ codes "//" ++ (line ++ rest) = e ∙ ap (λ xs. codes "//" ++ xs) (sym (take-append-drop n after)) in
    let shorter : length rest ≤ m = omega (arith, l, ap length e, length-drop n after) in
    AtLineComment line rest whole (line-all after) (line-ends after)
    (subst (Reads (place + (length line + 2)) rest) (sym (line-step place text line rest whole (line-all after) (line-ends after))) (more (place + (length line + 2)) rest shorter))

no-form : (m : ℕ) (text : List ℕ) → longest m text ≡ None → (j : ℕ) → j ≤ m → form_of (take j text) ≡ None
unfolding longest
no-form zero text h zero l = form-nil
no-form zero text h (suc j) l = absurd (omega arith)
no-form (suc m) text h j l =
    let both : (form_of (take (suc m) text) ≡ None) × (longest m text ≡ None) = grind arith in
    ⊎_elim (λ below. no-form m text both.1 j (omega arith)) (λ above. let last : j ≡ suc m = omega arith in ap (λ i. form_of (take i text)) last ∙ both.0) (cases_lt j (suc m))

token-reads : (m place : ℕ) (text : List ℕ) (o : Option (TokenKind × ℕ)) → length text ≤ suc m → BeginsToken text → longest (length text) text ≡ o → Later m → Reads place text (tokens_from 0 place text)
token-reads m place text None l begins e more =
    let some = some-bytes text begins.some in
    let n = char_len text in
    let none = no-form (length text) text e in
    let shorter : length (drop n text) ≤ m = omega (arith, l, length-drop n text) in
    AtOther (tokens_from 0 (place + n) (drop n text)) begins none (more (place + n) (drop n text) shorter) (other-step place text begins none)
token-reads m place text (Some f) l begins e more =
    let is = longest-is (length text) text f e in
    let long : IsLongest text f.0 f.1 = record { within = is.within; form = is.form; longer = is.longer } in
    let shorter : length (drop f.1 text) ≤ m = omega (arith, l, is.some, length-drop f.1 text) in
    AtToken f.0 f.1 (tokens_from 0 (place + f.1) (drop f.1 text)) begins long (more (place + f.1) (drop f.1 text) shorter) (token-step place text f.0 f.1 begins long)

step-reads : (m place : ℕ) (text : List ℕ) → 0 < length text → length text ≤ suc m → Later m → Reads place text (tokens_from 0 place text)
step-reads m place text some l more =
    by_test (is_blank (first text))
    (λ t.
    let whole = head-tail text some in
    AtBlank (first text) (drop 1 text) whole t (subst (Reads (place + 1) (drop 1 text)) (sym (blank-step place text (first text) (drop 1 text) whole t)) (more (place + 1) (drop 1 text) (omega (arith, l, length-drop 1 text)))))
    (λ plain. by_test (starts_with nat_eq text (codes "(*"))
    (λ t. comment-reads m place text (drop 2 text) (before_close (drop 2 text)) l (starts (codes "(*") text t) refl more)
    (λ no_comment. by_test (starts_with nat_eq text (codes "//"))
    (λ t. line-reads m place text (drop 2 text) l (starts (codes "//") text t) more)
    (λ no_line. token-reads m place text (longest (length text) text) l
    (record {
      some = λ e. absurd (omega (arith, some, ap length e));
      no_blank = plain;
      no_comment = λ rest e. both_ways _ no_comment (starting (codes "(*") text rest e);
      no_line_comment = λ rest e. both_ways _ no_line (starting (codes "//") text rest e);
    })
    refl more)))

reads-within : (m place : ℕ) (text : List ℕ) → length text ≤ m → Reads place text (tokens_from 0 place text)
reads-within m place [] l = AtEnd refl (end-step place)
reads-within zero place (b ∷ bs) l = absurd (omega arith)
reads-within (suc m) place (b ∷ bs) l = step-reads m place (b ∷ bs) (omega arith) l (reads-within m)

pub reads-tokens : (text : List ℕ) → Reads 0 text (tokens_of text)
unfolding tokens_of
reads-tokens text = reads-within (length text) 0 text (omega arith)

pub reads-one : (text : List ℕ) (reading : Result (List Token) Span) → Reads 0 text reading → reading ≡ tokens_of text
unfolding tokens_of
reads-one text reading h = reads-is h
