-- Tokens as the grammar sees them: the classification of tokens.
use Rattle.std.specs.Prelude.{ℕ, not, nat_lt, nat_eq, ◌==◌, if◌then◌else◌, List, [], ◌∷◌, length, map, take, codes, slice_range, Option, Some, None, Result, Ok, Err}
use Rattle.std.specs.{List.{list_any, prefix_len}, Cmp.Lexicographic.{pointwise}}
use Rattle.fb_tree.specs.{Text.Bytes.{hash, point}, Text.Elementary.{type_class_of}, Text.Forms.{same_word}, Text.Name.{name_of}, Text.Tokens.{tokens_of}}
use Rattle.fb_tree.specs.{Text.declared.elementary.TypeClass.{TypeClass}, Text.declared.name.NameUse.{NameUse}, Text.declared.token.Span.{Span}}
use Rattle.fb_tree.specs.Text.declared.token.TokenKind.{TokenKind}
use Rattle.fb_tree.specs.Text.declared.elementary.TypeClass.TheVariants as class
use Rattle.fb_tree.specs.Text.declared.token.Token as token
use Rattle.fb_tree.specs.Text.declared.token.TokenKind.TheVariants as found
use Rattle.fb_grammar.specs.declared.kind.Kind.{Kind}
use Rattle.fb_grammar.specs.declared.kind.Kind.TheVariants.{NameIn, NameOn, NameSt, Name, Zero, One, Number, RealNumber, TypedTruth, TypedInteger, TypedBits, TypedFree, TypedOther, Text, Other}
use Rattle.fb_grammar.specs.{declared.lexeme.Lexeme.{Lexeme}, ReservedWords.{keyword, symbol}}

-- a name of at most 64 bytes; IN, ON and ST in any case have their own kinds; a longer word is no name
unfoldable pub name_kind : List ℕ → Kind
name_kind word =
    if nat_lt 64 (length word) then Other
    else if same_word word (codes "IN") then NameIn
    else if same_word word (codes "ON") then NameOn
    else if same_word word (codes "ST") then NameSt
    else Name

abbrev pub kind_or : Option Kind → Kind → Kind
kind_or (Some kind) default = kind
kind_or None default = default

-- a reserved word, or else a name
unfoldable pub word_kind : List ℕ → Kind
word_kind word = kind_or (keyword word) (name_kind word)

-- the numbers spelled `0` and `1`, those with a point, and the others
unfoldable pub number_kind : List ℕ → Kind
number_kind number =
    if pointwise nat_eq number (codes "0") then Zero
    else if pointwise nat_eq number (codes "1") then One
    else if list_any (λ b. b == point) number then RealNumber
    else Number

-- what comes before the first `#`
abbrev pub type_name : List ℕ → List ℕ
type_name bytes = take (prefix_len (λ b. not (b == hash)) bytes) bytes

abbrev pub literal_kind : TypeClass → Kind
literal_kind class.Truth = TypedTruth
literal_kind class.Integer = TypedInteger
literal_kind class.Bits = TypedBits
literal_kind class.Free = TypedFree
literal_kind class.Other = TypedOther

-- a typed literal, by the class of the type that it names
unfoldable pub typed_kind : List ℕ → Kind
typed_kind bytes = literal_kind (type_class_of (type_name bytes))

unfoldable pub symbol_kind : List ℕ → Kind
symbol_kind bytes = kind_or (symbol bytes) Other

-- the kind of a token with these bytes
unfoldable pub kind_of : TokenKind → List ℕ → Kind
kind_of found.Word bytes = word_kind bytes
kind_of found.Number bytes = number_kind bytes
kind_of found.Typed bytes = typed_kind bytes
kind_of found.String bytes = Text
kind_of found.Symbol bytes = symbol_kind bytes
kind_of found.Other bytes = Other

abbrev pub name_or : {E : Type 0} → Result (List ℕ) E → List ℕ → List ℕ
name_or (Ok name) other = name
name_or (Err e) other = other

-- the name that the bytes spell, `_` if they spell none
abbrev pub spelled_name : List ℕ → List ℕ
spelled_name bytes = name_or (name_of bytes) (codes "_")

-- a token of the text
unfoldable pub lexeme_of : List ℕ → token.Token → Lexeme
lexeme_of text token = record {
  kind = kind_of token.kind (slice_range text token.span.start token.span.end);
  span = token.span;
  name = spelled_name (slice_range text token.span.start token.span.end);
}

abbrev pub lexemes_in : List ℕ → Result (List token.Token) Span → Result (List Lexeme) Span
lexemes_in text (Ok tokens) = Ok (map (lexeme_of text) tokens)
lexemes_in text (Err bad) = Err bad

-- the tokens of a text, or the span of a comment that is never closed
unfoldable pub lexemes_of : List ℕ → Result (List Lexeme) Span
lexemes_of text = lexemes_in text (tokens_of text)

-- the span of the first token, or the empty span at the end
abbrev pub place : ℕ → List Lexeme → Span
place end [] = record { start = end; end = end }
place end (lexeme ∷ lexemes) = lexeme.span

-- the name with its span
abbrev pub name_use : Lexeme → NameUse
name_use lexeme = record { name = lexeme.name; span = lexeme.span }
