-- How types are spelled.
use Rattle.std.specs.{Prelude.{ℕ, Bool, false, List, [], ◌∷◌, ◌++◌, Result, Ok, Err, nat_eq, slice_range}, Cmp.Lexicographic.{pointwise}, List.{flat_map}}
use Rattle.std.specs.Str.{str_to_ascii_uppercase}
use Rattle.fb_tree.specs.{Text.Tokens.{tokens_of}, Text.declared.token.Span.{Span}, Text.declared.token.Token.{Token}, declared.interface.TypeForm.{TypeForm}}
use Rattle.fb_tree.specs.{declared.interface.TypeForm.TheVariants.{Plain, Sized, Array}, declared.interface.TypeUse.{TypeUse}}
use Rattle.fb_iface.specs.{Library.Parts.{part}, Library.View.{Sources, text_or_empty}, Names.{is_same}}

-- a token in upper case, with a blank after it
abbrev pub word : List ℕ → Token → List ℕ
word text t = str_to_ascii_uppercase (slice_range text t.span.start t.span.end) ++ 32 ∷ []

abbrev pub words_of : List ℕ → Result (List Token) Span → List ℕ
words_of text (Ok tokens) = flat_map (word text) tokens
words_of text (Err bad) = []

-- the tokens of a text in upper case, each with a blank after it
abbrev pub words : List ℕ → List ℕ
words text = words_of text (tokens_of text)

-- the words of a part of a unit's text
abbrev pub words_at : Sources → List ℕ → Span → List ℕ
words_at sources unit span = words (part (text_or_empty sources unit) span)

-- types with a length and arrays are the same if their tokens are
abbrev pub same_words : Sources → List ℕ → Span → List ℕ → Span → Bool
same_words sources unit a other b = pointwise nat_eq (words_at sources unit a) (words_at sources other b)

-- plain types are the same if their names are
abbrev pub same_by_form : TypeForm → TypeForm → Bool → Bool → Bool
same_by_form Plain Plain names tokens = names
same_by_form Sized Sized names tokens = tokens
same_by_form Array Array names tokens = tokens
same_by_form a b names tokens = false

-- whether two types are spelled alike, each in the text of a unit
abbrev pub same_type : Sources → List ℕ → TypeUse → List ℕ → TypeUse → Bool
same_type sources unit a other b = same_by_form a.form b.form (is_same a.name.name b.name.name) (same_words sources unit a.span other b.span)
