-- Literals by the kinds of their tokens.
use Rattle.std.specs.Prelude.{List, [], ◌∷◌, ◌++◌}
use Rattle.fb_tree.specs.{Text.declared.token.Span.{Span}, declared.constant.Literal.{Literal}, declared.constant.LiteralForm.{LiteralForm}}
use Rattle.fb_tree.specs.Text.declared.elementary.TypeClass.TheVariants as class
use Rattle.fb_grammar.specs.declared.kind.Kind.{Kind}
use Rattle.fb_grammar.specs.declared.kind.Kind.TheVariants.{Zero, One, Number, RealNumber, TypedTruth, TypedInteger, TypedBits, TypedFree, TypedOther, Text, True, False}
use Rattle.fb_grammar.specs.declared.lexeme.Lexeme.{Lexeme}
use Rattle.fb_tree.specs.declared.constant.LiteralForm.TheVariants as form

-- NUMBER
abbrev pub number_kinds : List Kind
number_kinds = Zero ∷ One ∷ Number ∷ RealNumber ∷ []

-- TYPED
abbrev pub typed_kinds : List Kind
typed_kinds = TypedTruth ∷ TypedInteger ∷ TypedBits ∷ TypedFree ∷ TypedOther ∷ []

-- NUMBER | TYPED | STRING | 'TRUE' | 'FALSE'
abbrev pub literal_kinds : List Kind
literal_kinds = number_kinds ++ (typed_kinds ++ (Text ∷ True ∷ False ∷ []))

-- used for a token that is no literal: its body stays closed to proofs, so that nothing is known of it
pub no_literal : LiteralForm
no_literal = form.Text

-- the form of a literal of this kind, as far as it is written without a sign
abbrev pub literal_form : Kind → LiteralForm
literal_form Zero = form.Bit
literal_form One = form.Bit
literal_form Number = form.Whole
literal_form RealNumber = form.Real
literal_form TypedTruth = form.Typed class.Truth
literal_form TypedInteger = form.Typed class.Integer
literal_form TypedBits = form.Typed class.Bits
literal_form TypedFree = form.Typed class.Free
literal_form TypedOther = form.Typed class.Other
literal_form Text = form.Text
literal_form True = form.Truth
literal_form False = form.Truth
literal_form _ = no_literal

-- the literal of a kind at a place
abbrev pub literal_at : Kind → Span → Literal
literal_at kind span = record { form = literal_form kind; span = span }

abbrev pub literal_use : Lexeme → Literal
literal_use token = record { form = literal_form token.kind; span = token.span }

-- the span from the start of one to the end of the other
abbrev pub across : Span → Span → Span
across a b = record { start = a.start; end = b.end }
