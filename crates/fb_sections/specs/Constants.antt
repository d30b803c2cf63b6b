-- The forms of types and constants.
use Rattle.std.specs.Prelude.{List, [], ◌∷◌, Option, Some, None}
use Rattle.fb_tree.specs.{Text.declared.name.NameUse.{NameUse}, Tree.{ConstantTree, one_value, value_list}, declared.constant.Literal.{Literal}}
use Rattle.fb_tree.specs.{declared.constant.LiteralForm.{LiteralForm}, declared.constant.LiteralForm.TheVariants.{Bit, Whole}}
use Rattle.fb_tree.specs.{declared.constant.Simple.{Simple}, declared.interface.TypeForm.TheVariants.{Plain, Sized, Array as ArrayForm}}
use Rattle.fb_tree.specs.declared.interface.TypeUse.{TypeUse}
use Rattle.fb_grammar.specs.declared.kind.Kind.{Kind}
use Rattle.fb_grammar.specs.declared.kind.Kind.TheVariants.{Array, Of, Range, OpenBracket, CloseBracket, Plus, Minus, TypedTruth, TypedInteger, TypedBits, TypedFree, TypedOther, Text, True, False}
use Rattle.fb_grammar.specs.Literals.{number_kinds, literal_form, literal_use, across}
use Rattle.fb_grammar.specs.{declared.lexeme.Lexeme.{Lexeme}, Form.{Form, one, both, either, option, as_value}, Words.{key, behind, passed, list, name}}
use Rattle.fb_tree.specs.declared.constant.Simple.TheVariants as simple_value

-- with a sign, `0` and `1` are numbers like others
abbrev pub signed_form : LiteralForm → LiteralForm
signed_form Bit = Whole
signed_form form = form

-- a number with its sign, which the span includes
abbrev pub number_with : Option Lexeme → Lexeme → Literal
number_with None token = literal_use token
number_with (Some sign) token = record { form = signed_form (literal_form token.kind); span = across sign.span token.span }

-- ['+' | '-'] NUMBER
unfoldable pub number : Form Literal
number = as_value (λ v. number_with v.0 v.1) (both (option (one (Plus ∷ Minus ∷ []))) (one number_kinds))

-- bound '..' bound, each of them a number
unfoldable pub range : Form (Unit {0})
range = passed (both number (behind (key Range) number))

-- range {',' range}
unfoldable pub ranges : Form (Unit {0})
ranges = passed (list range)

-- '[' NUMBER ']', of which the closing bracket is kept
unfoldable pub length_of_string : Form Lexeme
length_of_string = behind (key OpenBracket) (behind (one number_kinds) (key CloseBracket))

abbrev pub element_or_sized : NameUse → Option Lexeme → TypeUse
element_or_sized n None = record { name = n; form = Plain; span = n.span }
element_or_sized n (Some bracket) = record { name = n; form = Sized; span = across n.span bracket.span }

-- name ['[' NUMBER ']']
unfoldable pub plain_type : Form TypeUse
plain_type = as_value (λ v. element_or_sized v.0 v.1) (both name (option length_of_string))

abbrev pub array_of : Lexeme × NameUse → TypeUse
array_of v = record { name = v.1; form = ArrayForm; span = across v.0.span v.1.span }

-- 'ARRAY' '[' range {',' range} ']' 'OF' name
unfoldable pub array_type : Form TypeUse
array_type = as_value array_of (both (key Array) (behind (key OpenBracket) (behind ranges (behind (key CloseBracket) (behind (key Of) name)))))

-- type: one of these
unfoldable pub type_use : Form TypeUse
type_use = either plain_type array_type

-- TYPED | STRING | 'TRUE' | 'FALSE'
abbrev pub other_literal_kinds : List Kind
other_literal_kinds = TypedTruth ∷ TypedInteger ∷ TypedBits ∷ TypedFree ∷ TypedOther ∷ Text ∷ True ∷ False ∷ []

-- ['+' | '-'] NUMBER | TYPED | STRING | 'TRUE' | 'FALSE' | name
unfoldable pub simple : Form Simple
simple =
    either (as_value simple_value.Name name)
    (either (as_value (λ token. simple_value.Literal (literal_use token)) (one other_literal_kinds))
    (as_value simple_value.Literal number))

abbrev pub in_brackets : Lexeme × (List Simple × Lexeme) → ConstantTree
in_brackets v = value_list v.1.0 (across v.0.span v.1.1.span)

-- '[' simple {',' simple} ']'
unfoldable pub constant_list : Form ConstantTree
constant_list = as_value in_brackets (both (key OpenBracket) (both (list simple) (key CloseBracket)))

-- simple | '[' simple {',' simple} ']'
unfoldable pub constant : Form ConstantTree
constant = either constant_list (as_value one_value simple)
