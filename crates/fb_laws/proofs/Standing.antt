-- The tokens of a text, and the parts that are written in them.
use Rattle.fb_laws.proofs.Common.{Covers, IsWord, ◌≡◌, ℕ, zero, suc, ◌+◌, ◌<◌, ◌≤◌, inl, inr, List, [], ◌∷◌, ◌++◌, length, drop, refl, subst, arith, length-drop, Ok, IsUtf8, All, slice_index_or, cases_lt, piece_at, tokens_of, FitsIn, IsSpelled, LiesIn, SpansRise, spans_of, Span, Token, Bool, true, cond, map, sym, ap, ◌∙◌, Result, Err, IsOk, nat_lt, slice_range, str_to_ascii_uppercase, map-append, Contains-append_left, All-contains, All-from_recursion, All-map, All-weaker, Contains-append_right, contains_here, origin_in_map, name_of, is_word, NameFault, NameUse, name_of-ok, IsBody, IsBodyIn, body_of, Whole, name as name_form, Spells, is_among, name_kinds, lexeme_of, lexemes_in, lexemes_of, name_or, name_use, Lexeme, DeclTree, told, Part, name_part, tree_parts, PartsAreWritten, SpansCoverTokens, SpansLieInText, NamesAreWords, part_span, BeginsAt, EndsAt, IsWritten, Contains}
use Rattle.std.proofs.lemmas.Str.{IsUtf8-drop}
use Rattle.fb_text.specs.{declared.scan.Piece.{Piece}, declared.scan.Piece.TheVariants.{Gap, Unclosed, Found}}
use Rattle.fb_text.proofs.{Boundaries.{piece-fits}, Reading.{HasRead, start, after-gap, after-token, unclosed, all-read}}
use Rattle.fb_laws.proofs.UnitSpans.{sound_unit}
use Rattle.fb_structured_text.proofs.Forms.NameWords.{names as names_are_words}

-- the tokens are in the text one after the other, and each has the form of its kind
pub record AreTokens (text : List ℕ) (tokens : List Token) : Type 0 where
  pub within : All (λ t. LiesIn text t.span) tokens
  pub spelled : All (IsSpelled text) tokens
  pub rise : SpansRise 0 (length text) (spans_of tokens)

module _ (text : List ℕ) (utf8 : IsUtf8 text) (tokens : List Token) (are : tokens_of text ≡ Ok tokens) where
  at_end : (ts : List Token) (place : ℕ) → HasRead text ts place → length text ≤ place → AreTokens text tokens
  at_end ts place read done = grind (arith, all-read)

  -- one piece is read, and what is read then shows the tokens
  past_piece : (ts : List Token) (place : ℕ) → HasRead text ts place → place < length text
      → ((us : List Token) (n : ℕ) → 0 < n → HasRead text us (place + n) → AreTokens text tokens)
      → (piece : Piece) → piece_at (drop place text) ≡ piece → FitsIn (drop place text) piece → AreTokens text tokens
  past_piece ts place read left more (Gap n) e fits = more ts n fits.some (after-gap text ts place read left n e fits)
  past_piece ts place read left more Unclosed e fits = let bad = unclosed text ts place read left e in absurd (let no : ⊥ = cc in no)
  past_piece ts place read left more (Found kind n) e fits = more _ n fits.some (after-token text ts place read left kind n e fits)

  -- by the number of bytes that are left at most
  from_place : (fuel : ℕ) (ts : List Token) (place : ℕ) → HasRead text ts place → length text ≤ place + fuel → AreTokens text tokens
  from_place zero ts place read enough = at_end ts place read (omega (arith, enough))
  from_place (suc fuel) ts place read enough =
      elim (cases_lt place (length text)) [
        | inl left ↦
            let some : 0 < length (drop place text) = omega (arith, length-drop place text) in
            past_piece ts place read left (λ us n pos later. from_place fuel us (place + n) later (omega (arith, enough, pos)))
            (piece_at (drop place text)) refl (piece-fits (drop place text) (IsUtf8-drop text place utf8 read.place_ends) some)
        | inr done ↦ at_end ts place read done
      ]

  pub tokens_are : AreTokens text tokens
  tokens_are = from_place (length text) [] 0 (start text utf8) (omega arith)

-- Spans that rise

-- one of the spans is not empty, and begins at that place or after it
pub rise_at : (from end : ℕ) (ss : List Span) (s : Span) (k : ℕ) → SpansRise from end ss → k < length ss → slice_index_or ss k s ≡ s → (from ≤ s.start) × (s.start < s.end)
rise_at from end [] s k rise within e = absurd (omega arith)
rise_at from end (t ∷ ss) s zero rise within e = subst (λ (z : Span). (from ≤ z.start) × (z.start < z.end)) e (rise.0, rise.1)
rise_at from end (t ∷ ss) s (suc k) rise within e =
    let later = rise_at t.end end ss s k rise.2 (omega arith) e in
    (omega (arith, rise.0, rise.1, later.0), later.1)

-- the spans from one of them on rise from its begin
pub rise_behind : (from end : ℕ) (before : List Span) (first : Span) (behind : List Span) → SpansRise from end (before ++ first ∷ behind) → SpansRise first.start end (first ∷ behind)
rise_behind from end [] first behind rise = (omega arith, rise.1, rise.2)
rise_behind from end (s ∷ before) first behind rise = rise_behind s.end end before first behind rise.2

-- Spellings

ok_name : (a b c : Bool) (e f g : NameFault) (name other : List ℕ)
    → IsOk (cond a (Err e) (cond b (Err f) (cond c (Err g) (Ok name)))) → name_or (cond a (Err e) (cond b (Err f) (cond c (Err g) (Ok name)))) other ≡ name
ok_name a b c e f g name other h = grind arith

-- a word of at most 64 bytes spells its name
pub spelled_word : (bytes other : List ℕ) → is_word bytes ≡ true → length bytes ≤ 64 → name_or (name_of bytes) other ≡ str_to_ascii_uppercase bytes
unfolding name_of
spelled_word bytes other word short = grind (arith, ok_name, nat_lt, str_to_ascii_uppercase, name_of-ok)

-- Tokens

-- the places of tokens as the grammar sees them
abbrev spans : List Lexeme → List Span
spans us = map (λ l. l.span) us

same_spans : (text : List ℕ) (tokens : List Token) → spans (map (lexeme_of text) tokens) ≡ spans_of tokens
unfolding lexeme_of
same_spans text [] = refl
same_spans text (t ∷ ts) = ap (λ ss. t.span ∷ ss) (same_spans text ts)

word_stands : (text : List ℕ) (tokens : List Token) (token : Token) (name : NameUse) → AreTokens text tokens → Contains tokens token → is_among name_kinds (lexeme_of text token).kind ≡ true
    → name ≡ name_use (lexeme_of text token) → IsWord text tokens name
unfolding lexeme_of
word_stands text tokens token name are among kind same = grind (arith, slice_range, names_are_words, spelled_word)

-- the token of a name that is written
pub name_in : (us inside : List Lexeme) (before behind : List Lexeme) (name : NameUse) → us ≡ before ++ (inside ++ behind) → Spells name_form inside name
    → (l : Lexeme) × Contains us l × (is_among name_kinds l.kind ≡ true) × (name ≡ name_use l)
unfolding name_form
name_in us inside before behind name e s =
    let l = s.0 in
    let one = subst (λ (z : List Lexeme). Contains z l) (sym s.1.0) (contains_here l []) in
    (l, subst (λ (z : List Lexeme). Contains z l) (sym e) (Contains-append_right before (inside ++ behind) l (Contains-append_left inside behind l one)), s.1.1, s.2)

pub name_stands : (text : List ℕ) (tokens : List Token) (name : NameUse) → AreTokens text tokens → IsWritten (map (lexeme_of text) tokens) (name_part name) → IsWord text tokens name
name_stands text tokens name are h =
    let found = name_in (map (lexeme_of text) tokens) h.inside h.before h.behind name h.parts h.spells in
    let of = origin_in_map (lexeme_of text) tokens found.0 found.1 in
    word_stands text tokens of.origin name are of.among (subst (λ (l : Lexeme). is_among name_kinds l.kind ≡ true) (sym of.gives) found.2) (found.3 ∙ ap name_use (sym of.gives))

-- Tokens that a span covers

last_span : (us : List Lexeme) (place : ℕ) → EndsAt us place → (s : Span) × Contains (spans us) s × (place ≡ s.end)
last_span [] place h = absurd h
last_span (u ∷ []) place h = (u.span, (0, omega arith, refl), h)
last_span (u ∷ v ∷ us) place h =
    let later = last_span (v ∷ us) place h in
    (later.0, Contains-append_right (u.span ∷ []) (spans (v ∷ us)) later.0 later.1, later.2)

covers : (us before inside behind : List Lexeme) (s : Span) → us ≡ before ++ (inside ++ behind) → BeginsAt inside s.start → EndsAt inside s.end → Covers (spans us) s
covers us before [] behind s e begins ends = absurd begins
covers us before (l ∷ inside) behind s e begins ends =
    let last = last_span (l ∷ inside) s.end ends in
    let parts = ap spans e ∙ map-append (λ (t : Lexeme). t.span) before (l ∷ inside ++ behind) ∙ ap (λ z. spans before ++ l.span ∷ z) (map-append (λ (t : Lexeme). t.span) inside behind) in
    let from_first : Contains (l.span ∷ (spans inside ++ spans behind)) last.0 = Contains-append_left (spans (l ∷ inside)) (spans behind) last.0 last.1 in
    search

pub part_covers : (text : List ℕ) (tokens : List Token) (p : Part) → IsWritten (map (lexeme_of text) tokens) p → Covers (spans_of tokens) (part_span p)
part_covers text tokens p h = grind (arith, same_spans, covers)

-- Trees

-- the parts of a tree are written in the tokens of the text
pub record StandsInTokens (text : List ℕ) (tree : DeclTree) : Type 0 where
  pub tokens : List Token
  pub are : tokens_of text ≡ Ok tokens
  pub written : All (IsWritten (map (lexeme_of text) tokens)) (tree_parts tree)

tree_in : (text : List ℕ) (tree : DeclTree) (r : Result (List Token) Span) → tokens_of text ≡ r → IsBodyIn (length text) (lexemes_in text r) (Whole tree) → StandsInTokens text tree
tree_in text tree (Err bad) e h = cc
tree_in text tree (Ok tokens) e h = record { tokens = tokens; are = e; written = All-from_recursion (IsWritten (map (lexeme_of text) tokens)) (tree_parts tree) (sound_unit.stands (map (lexeme_of text) tokens) tree h) }

pub tree_stands : (text : List ℕ) (tree : DeclTree) → body_of text ≡ Whole tree → StandsInTokens text tree
unfolding lexemes_of
tree_stands text tree e = tree_in text tree (tokens_of text) refl (subst (IsBody text) e (told text))

-- The laws

pub parts_are_written : PartsAreWritten
unfolding lexemes_of
parts_are_written text tree e =
    let h = tree_stands text tree e in
    (map (lexeme_of text) h.tokens, ap (lexemes_in text) h.are, h.written)

pub spans_cover_tokens : SpansCoverTokens
spans_cover_tokens text tree e =
    let h = tree_stands text tree e in
    (h.tokens, h.are, All-weaker (IsWritten (map (lexeme_of text) h.tokens)) (λ p. Covers (spans_of h.tokens) (part_span p)) (part_covers text h.tokens) (tree_parts tree) h.written)

pub names_are_spelled : NamesAreWords
names_are_spelled text tree utf8 e =
    let h = tree_stands text tree e in
    (h.tokens, h.are, λ name among. name_stands text h.tokens name (tokens_are text utf8 h.tokens h.are) (All-contains (IsWritten (map (lexeme_of text) h.tokens)) (tree_parts tree) (name_part name) h.written among))

module _ (text : List ℕ) (tokens : List Token) (are : AreTokens text tokens) where
  one_lies : (s : Span) → Contains (spans_of tokens) s → LiesIn text s
  one_lies s among = All-contains (LiesIn text) (spans_of tokens) s (All-map (LiesIn text) (λ (t : Token). t.span) tokens are.within) among

  pub covers_lies : (s : Span) → Covers (spans_of tokens) s → LiesIn text s × (s.start < s.end)
  covers_lies s c =
      let from_first = c.first ∷ c.behind in
      let among : (z : Span) → Contains from_first z → Contains (spans_of tokens) z = λ z h. subst (λ (ss : List Span). Contains ss z) (sym c.parts) (Contains-append_right c.before from_first z h) in
      let first = one_lies c.first (among c.first (0, omega arith, refl)) in
      let last = one_lies c.last (among c.last c.from_first) in
      grind (arith, rise_behind, rise_at)

pub spans_lie_in_text : SpansLieInText
spans_lie_in_text text tree utf8 e =
    let h = tree_stands text tree e in
    All-weaker (IsWritten (map (lexeme_of text) h.tokens)) (λ p. LiesIn text (part_span p) × ((part_span p).start < (part_span p).end))
    (λ p written. covers_lies text h.tokens (tokens_are text utf8 h.tokens h.are) (part_span p) (part_covers text h.tokens p written)) (tree_parts tree) h.written
