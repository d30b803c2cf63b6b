-- Reading the tokens of a text piece by piece.
use Rattle.std.proofs.Common.{◌≡◌, Bool, false, ℕ, zero, suc, ◌+◌, ◌-◌, ◌<◌, ◌≤◌, List, [], ◌∷◌, ◌++◌, length, take, drop, sym, refl, ap, subst, ◌∙◌, arith, add-zero, length-drop, append-nil, append_assoc, Result, Ok, Err, IsUtf8}
use Rattle.std.proofs.{lemmas.List.{drop-drop, drop_all}, lemmas.List.Elements.{All-nil, All-push}, lemmas.Str.{IsCharBoundary-start, IsCharBoundary-from_rest}}
use Rattle.std.specs.{Prelude.{All}, Str.{IsCharBoundary}}
use Rattle.fb_text.specs.Tokens.{piece_before, with_token, piece_at, tokens_from, tokens_of, IsPrefix, LiesIn, IsSpelled, SpansRise, spans_of}
use Rattle.fb_text.specs.declared.scan.Piece.TheVariants.{Gap, Unclosed, Found}
use Rattle.fb_text.specs.{Forms.{HasForm}, Scan.{AreOpen, no_quotes}, declared.quotes.OpenQuotes.{OpenQuotes}, declared.token.Span.{Span}}
use Rattle.fb_text.specs.{declared.token.Token.{Token}, declared.token.TokenKind.{TokenKind}, declared.scan.Piece.{Piece}}
use Rattle.fb_text.proofs.{OpenLines.{AreOpen-later, AreOpen-none}, Boundaries.{piece-spelled}}

-- tokens before those that a reading has
abbrev pub behind : List Token → Result (List Token) Span → Result (List Token) Span
behind ts (Ok us) = Ok (ts ++ us)
behind ts (Err bad) = Err bad

behind-nil : (r : Result (List Token) Span) → behind [] r ≡ r
behind-nil r = grind arith

-- the bytes inside a piece are passed over
skip : (k place : ℕ) (xs : List ℕ) → tokens_from k place xs ≡ tokens_from 0 (place + k) (drop k xs)
unfolding tokens_from
skip zero place xs = ap (λ n. tokens_from 0 n xs) (sym (add-zero place))
skip (suc k) place [] = refl
skip (suc k) place (b ∷ bs) = skip k (place + 1) bs ∙ ap (λ n. tokens_from 0 n (drop k bs)) (let e : place + 1 + k ≡ place + suc k = omega arith in e)

inside : (n place b : ℕ) (bs : List ℕ) → 0 < n → tokens_from (n - 1) (place + 1) bs ≡ tokens_from 0 (place + n) (drop n (b ∷ bs))
inside zero place b bs h = absurd (omega arith)
inside (suc n) place b bs h =
    skip (suc n - 1) (place + 1) bs
    ∙ ap (λ m. tokens_from 0 (place + 1 + m) (drop m bs)) (let e : suc n - 1 ≡ n = omega arith in e)
    ∙ ap (λ m. tokens_from 0 m (drop n bs)) (let e : place + 1 + n ≡ place + suc n = omega arith in e)

step : (place b : ℕ) (bs : List ℕ) (piece : Piece) → piece_at (b ∷ bs) ≡ piece → tokens_from 0 place (b ∷ bs) ≡ piece_before place (place + length (b ∷ bs)) piece (λ n. tokens_from (n - 1) (place + 1) bs)
unfolding tokens_from
step place b bs piece e = ap (λ p. piece_before place (place + length (b ∷ bs)) p (λ n. tokens_from (n - 1) (place + 1) bs)) e

pub gap-step : (place : ℕ) (rest : List ℕ) (n : ℕ) → 0 < length rest → 0 < n → piece_at rest ≡ Gap n → tokens_from 0 place rest ≡ tokens_from 0 (place + n) (drop n rest)
gap-step place [] n pos some e = absurd (omega arith)
gap-step place (b ∷ bs) n pos some e = step place b bs (Gap n) e ∙ inside n place b bs some

pub unclosed-step : (place : ℕ) (rest : List ℕ) → 0 < length rest → piece_at rest ≡ Unclosed → tokens_from 0 place rest ≡ Err (record { start = place; end = place + length rest })
unclosed-step place [] pos e = absurd (omega arith)
unclosed-step place (b ∷ bs) pos e = step place b bs Unclosed e

pub found-step : (place : ℕ) (rest : List ℕ) (kind : TokenKind) (n : ℕ) → 0 < length rest → 0 < n → piece_at rest ≡ Found kind n → tokens_from 0 place rest ≡ with_token (record { kind = kind; span = record { start = place; end = place + n } }) (tokens_from 0 (place + n) (drop n rest))
found-step place [] kind n pos some e = absurd (omega arith)
found-step place (b ∷ bs) kind n pos some e =
    step place b bs (Found kind n) e ∙ ap (with_token (record { kind = kind; span = record { start = place; end = place + n } })) (inside n place b bs some)

behind-push : (ts : List Token) (t : Token) (r : Result (List Token) Span) → behind ts (with_token t r) ≡ behind (ts ++ t ∷ []) r
behind-push ts t (Ok us) = ap Ok (sym (append_assoc ts (t ∷ []) us))
behind-push ts t (Err bad) = refl

-- what the loop has read, and what is left
pub record HasRead (text : List ℕ) (ts : List Token) (place : ℕ) : Type 0 where
  pub reading : behind ts (tokens_from 0 place (drop place text)) ≡ tokens_of text
  pub place_ends : IsCharBoundary text place
  pub within : All (λ t. LiesIn text t.span) ts
  pub spelled : All (IsSpelled text) ts
  pub rise : SpansRise 0 place (spans_of ts)

rise-later : (from end later : ℕ) (spans : List Span) → SpansRise from end spans → end ≤ later → SpansRise from later spans
rise-later from end later [] h l = omega arith
rise-later from end later (s ∷ ss) h l = (h.0, h.1, rise-later s.end end later ss h.2 l)

rise-push : (from end : ℕ) (ts : List Token) (t : Token) → SpansRise from end (spans_of ts) → end ≤ t.span.start → t.span.start < t.span.end → SpansRise from t.span.end (spans_of (ts ++ t ∷ []))
rise-push from end [] t h l m = (omega arith, m, omega arith)
rise-push from end (u ∷ us) t h l m = (h.0, h.1, rise-push u.span.end end us t h.2 l m)

-- nothing is read yet
pub start : (text : List ℕ) → IsUtf8 text → HasRead text [] 0
unfolding tokens_of
start text utf8 = record {
  reading = behind-nil (tokens_from 0 0 text);
  place_ends = IsCharBoundary-start text utf8;
  within = All-nil (λ t. LiesIn text t.span);
  spelled = All-nil (IsSpelled text);
  rise = omega arith;
}

module _ (text : List ℕ) (ts : List Token) (place : ℕ) (read : HasRead text ts place) (left : place < length text) where
  some-left : 0 < length (drop place text)
  some-left = omega (arith, length-drop place text)

  -- a blank or a comment is passed
  pub after-gap : (n : ℕ) → piece_at (drop place text) ≡ Gap n → IsPrefix (drop place text) n → HasRead text ts (place + n)
  after-gap n e prefix = record {
    reading = ap (λ xs. behind ts (tokens_from 0 (place + n) xs)) (sym (drop-drop n place text)) ∙ ap (behind ts) (sym (gap-step place (drop place text) n some-left prefix.some e)) ∙ read.reading;
    place_ends = IsCharBoundary-from_rest text place n (omega arith) prefix.ends;
    within = read.within;
    spelled = read.spelled;
    rise = rise-later 0 place (place + n) (spans_of ts) read.rise (omega arith);
  }

  -- a token is read
  pub after-token : (kind : TokenKind) (n : ℕ) → piece_at (drop place text) ≡ Found kind n → IsPrefix (drop place text) n → HasRead text (ts ++ record { kind = kind; span = record { start = place; end = place + n } } ∷ []) (place + n)
  after-token kind n e prefix =
      let t : Token = record { kind = kind; span = record { start = place; end = place + n } } in
      let ends = IsCharBoundary-from_rest text place n (omega arith) prefix.ends in
      record {
        reading = ap (λ xs. behind (ts ++ t ∷ []) (tokens_from 0 (place + n) xs)) (sym (drop-drop n place text)) ∙ sym (behind-push ts t (tokens_from 0 (place + n) (drop n (drop place text)))) ∙ ap (behind ts) (sym (found-step place (drop place text) kind n some-left prefix.some e)) ∙ read.reading;
        place_ends = ends;
        within = All-push (λ u. LiesIn text u.span) ts t read.within (record { rises = omega (arith, prefix.some); starts = read.place_ends; ends = ends });
        spelled = All-push (IsSpelled text) ts t read.spelled (subst (HasForm kind) (ap (λ k. take k (drop place text)) (let len : n ≡ place + n - place = omega arith in len)) (piece-spelled (drop place text) kind n e));
        rise = rise-push 0 place ts t read.rise (omega arith) (omega (arith, prefix.some));
      }

  -- a comment is never closed
  pub unclosed : piece_at (drop place text) ≡ Unclosed → tokens_of text ≡ Err (record { start = place; end = length text })
  unclosed e =
      sym read.reading ∙ ap (behind ts) (unclosed-step place (drop place text) some-left e)
      ∙ ap (λ n. Err (record { start = place; end = n })) (let whole : place + length (drop place text) ≡ length text = omega (arith, length-drop place text) in whole)

-- all is read
pub all-read : (text : List ℕ) (ts : List Token) (place : ℕ) → HasRead text ts place → length text ≤ place → tokens_of text ≡ Ok ts
unfolding tokens_from
all-read text ts place read done =
    sym read.reading ∙ ap (λ xs. behind ts (tokens_from 0 place xs)) (drop_all place text done) ∙ ap Ok (append-nil ts)

-- What the loop has come to: the tokens up to a place, which are those that are kept unless one was refused.
pub record HasScanned (text : List ℕ) (kept : List Token) (refused : Bool) (place : ℕ) (quotes : OpenQuotes) : Type 0 where
  pub tokens : List Token
  pub read : HasRead text tokens place
  pub all_kept : refused ≡ false → kept ≡ tokens
  pub are_open : AreOpen text place quotes

module _ (text : List ℕ) (kept : List Token) (refused : Bool) (place : ℕ) (quotes later : OpenQuotes) (scanned : HasScanned text kept refused place quotes) (left : place < length text) (known : AreOpen text place later) where
  pub past-gap : (n : ℕ) → piece_at (drop place text) ≡ Gap n → IsPrefix (drop place text) n → HasScanned text kept refused (place + n) later
  past-gap n e prefix = record {
    tokens = scanned.tokens;
    read = after-gap text scanned.tokens place scanned.read left n e prefix;
    all_kept = scanned.all_kept;
    are_open = AreOpen-later text place n later known;
  }

  -- a token is kept, or refused
  pub past-token : (kind : TokenKind) (n : ℕ) (kept' : List Token) (refused' : Bool) → piece_at (drop place text) ≡ Found kind n → IsPrefix (drop place text) n
      → (refused' ≡ false → (refused ≡ false) × (kept' ≡ kept ++ record { kind = kind; span = record { start = place; end = place + n } } ∷ []))
      → HasScanned text kept' refused' (place + n) later
  past-token kind n kept' refused' e prefix keeps = record {
    tokens = scanned.tokens ++ record { kind = kind; span = record { start = place; end = place + n } } ∷ [];
    read = after-token text scanned.tokens place scanned.read left kind n e prefix;
    all_kept = λ f. (keeps f).1 ∙ ap (λ ts. ts ++ record { kind = kind; span = record { start = place; end = place + n } } ∷ []) (scanned.all_kept (keeps f).0);
    are_open = AreOpen-later text place n later known;
  }

  pub open-comment : piece_at (drop place text) ≡ Unclosed → tokens_of text ≡ Err (record { start = place; end = length text })
  open-comment e = unclosed text scanned.tokens place scanned.read left e

pub nothing-scanned : (text : List ℕ) (kept : List Token) (quotes : OpenQuotes) → IsUtf8 text → kept ≡ [] → quotes ≡ no_quotes → HasScanned text kept false 0 quotes
nothing-scanned text kept quotes utf8 none fresh = record {
  tokens = [];
  read = start text utf8;
  all_kept = λ f. none;
  are_open = subst (AreOpen text 0) (sym fresh) (AreOpen-none text);
}

pub all-scanned : (text : List ℕ) (kept : List Token) (refused : Bool) (place : ℕ) (quotes : OpenQuotes) (scanned : HasScanned text kept refused place quotes) → length text ≤ place → tokens_of text ≡ Ok scanned.tokens
all-scanned text kept refused place quotes scanned done = all-read text scanned.tokens place scanned.read done
