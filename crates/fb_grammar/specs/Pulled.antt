-- The token that was pulled last, and the list of all that is pulled from it on.
use Rattle.std.specs.{Prelude.{◌≡◌, ℕ, ◌<◌, ◌≤◌, true, false, List, [], length, drop, slice_range}, Str.{IsCharBoundary, str_to_ascii_uppercase}}
use Rattle.fb_tree.specs.{Text.Scan.{AreOpen}, Text.Words.{is_word}, Text.declared.quotes.OpenQuotes.{OpenQuotes}, Text.declared.token.Span.{Span}}
use Rattle.fb_grammar.specs.{declared.kind.Kind.{Kind}, declared.lexeme.Lexeme.{Lexeme}, declared.upcoming.Tokens.TheInside.{Inside}}
use Rattle.fb_grammar.specs.{Kind.{is_among, name_kinds}, Upcoming.{are_over, front, pulled_from}}

-- what is pulled of a text from a place on
abbrev pub pulled_at : List ℕ → ℕ → List Lexeme
pulled_at text place = pulled_from text 0 place (drop place text)

-- bytes that are a word of at most 64 bytes, and spell the name
pub record IsSpelling (bytes spelled : List ℕ) : Type 0 where
  pub word : is_word bytes ≡ true
  pub short : length bytes ≤ 64
  pub name : str_to_ascii_uppercase bytes ≡ spelled

-- The first of what is pulled from where a span begins has this kind and this span. What is pulled from its end on is what
-- follows it, and nothing follows what comes after all tokens.
pub record IsFront (text : List ℕ) (found : Kind) (span : Span) : Type 0 where
  pub some : 0 < length (pulled_at text span.start)
  pub kind : (front (pulled_at text span.start)).kind ≡ found
  pub place : (front (pulled_at text span.start)).span ≡ span
  pub spelled : is_among name_kinds found ≡ true → IsSpelling (slice_range text span.start span.end) (front (pulled_at text span.start)).name
  pub following : are_over (pulled_at text span.start) ≡ false → pulled_at text span.end ≡ drop 1 (pulled_at text span.start)
  pub last : are_over (pulled_at text span.start) ≡ true → drop 1 (pulled_at text span.start) ≡ []
  pub rises : span.start ≤ span.end
  pub starts : IsCharBoundary text span.start
  pub ends : IsCharBoundary text span.end

-- From a place on, blanks and comments are passed over up to where the span begins, and the open quotes are known from its end on.
pub record IsNext (text : List ℕ) (from : ℕ) (found : Kind) (span : Span) (quotes : OpenQuotes) : Type 0 where
  pub passed : pulled_at text from ≡ pulled_at text span.start
  pub front : IsFront text found span
  pub are_open : AreOpen text span.end quotes

-- what is pulled from the next token on
abbrev pub pulled : Inside → List Lexeme
pulled a = pulled_at a.text.now a.next.place.start

-- The next token has the kind and place that were found, and from its end on the open quotes are known.
pub record IsPulled (a : Inside) : Type 0 where
  pub short : length a.text.now < 4294967296
  pub front : IsFront a.text.now a.next.kind a.next.place
  pub are_open : AreOpen a.text.now a.next.place.end a.quotes
