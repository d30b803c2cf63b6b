-- The forms of expressions at each level.
use Rattle.std.specs.{Prelude.{ℕ, zero, suc, ◌+◌, List, [], ◌∷◌, ◌++◌, drop, length, map, Option, Some, None}, List.{flat_map}}
use Rattle.fb_tree.specs.{Text.declared.name.NameUse.{NameUse}, declared.expression.BinaryUse.{BinaryUse}, declared.reference.Member.{Member}}
use Rattle.fb_tree.specs.declared.expression.UnaryUse.{UnaryUse}
use Rattle.fb_tree.specs.Expression.{ReferenceTree, alone_tree, reference_tree, no_expressions, Expression, expression_tree, literal_expression, reference_expression, unary_expression, row_expression, parentheses, Expressions, expressions_of, operands_of}
use Rattle.fb_grammar.specs.{declared.kind.Kind.{Kind}, declared.kind.Kind.TheVariants.{Point, OpenBracket, CloseBracket, OpenParenthesis, CloseParenthesis}}
use Rattle.fb_grammar.specs.{declared.lexeme.Lexeme.{Lexeme}, Form.{Form, one, both, either, option, many, as_value}}
use Rattle.fb_grammar.specs.{Literals.{across, literal_kinds, literal_use}, Words.{key, behind, list, name}}
use Rattle.fb_structured_text.specs.declared.references.Variable.{Variable}
use Rattle.fb_structured_text.specs.declared.references.Variable.TheVariants.{Name as IsName, Reference as IsReference}
use Rattle.fb_structured_text.specs.Operators.{signs, strengths, operators, unary_use, binary_use}

-- Expressions and statements nest at levels 0 to 64. The index of a form counts the levels below its own, so that level 0 has index 64.
abbrev pub levels : ℕ
levels = 64

-- expr {',' expr}
unfoldable pub expressions : Form Expression → Form (List Expression)
expressions inner = list inner

-- '[' expr {',' expr} ']', with the closing bracket
unfoldable pub subscripts : Form Expression → Form (List Expression × Lexeme)
subscripts inner = behind (key OpenBracket) (both (expressions inner) (key CloseBracket))

-- a name of a reference, the subscripts after it, and its end
pub record PartTree : Type 0 where
  pub name : NameUse
  pub subscripts : List Expression
  pub end : ℕ

-- it ends with the bracket that closes its subscripts, or with the name if none are written
abbrev pub part_of : NameUse → Option (List Expression × Lexeme) → PartTree
part_of n None = record { name = n; subscripts = []; end = n.span.end }
part_of n (Some s) = record { name = n; subscripts = s.0; end = s.1.span.end }

-- name
unfoldable pub flat_part : Form PartTree
flat_part = as_value (λ n. part_of n None) name

-- name ['[' expr {',' expr} ']']
unfoldable pub deep_part : Form Expression → Form PartTree
deep_part inner = as_value (λ v. part_of v.0 v.1) (both name (option (subscripts inner)))

-- '.' part
abbrev pub further_part : Form PartTree → Form PartTree
further_part part = behind (key Point) part

-- part {'.' part}
abbrev pub parts : Form PartTree → Form (PartTree × List PartTree)
parts part = both part (many (further_part part))

-- a further name, with the number of subscripts after it
abbrev pub member_in : PartTree → Member
member_in p = record { name = p.name; subscripts = length p.subscripts }

-- the end of the last part, of one that ends here and those after it
abbrev pub last_end : ℕ → List PartTree → ℕ
last_end end [] = end
last_end end (p ∷ ps) = last_end p.end ps

abbrev pub subscripts_in : List PartTree → List Expression
subscripts_in ps = flat_map (λ p. p.subscripts) ps

-- the reference of these parts, from the first name to the end of the last part, and the subscripts of all of them
abbrev pub reference_in : PartTree × List PartTree → ReferenceTree × Expressions
reference_in v = (
  record {
    name = v.0.name;
    subscripts = length v.0.subscripts;
    members = map member_in v.1;
    span = record { start = v.0.name.span.start; end = last_end v.0.end v.1 };
  },
  expressions_of (v.0.subscripts ++ subscripts_in v.1),
)

-- the reference that a reader returned, and its subscripts
abbrev pub variable_tree : Variable → ReferenceTree × Expressions
variable_tree (IsName used) = (alone_tree used, no_expressions)
variable_tree (IsReference r subscripts) = (reference_tree r.value, expressions_of (map expression_tree subscripts.items))

-- a reference at the last level: name {'.' name}
unfoldable pub flat_reference : Form (ReferenceTree × Expressions)
flat_reference = as_value reference_in (parts flat_part)

-- a reference at the other levels: part {'.' part}, where a part is name ['[' expr {',' expr} ']']
unfoldable pub deep_reference : Form Expression → Form (ReferenceTree × Expressions)
deep_reference inner = as_value reference_in (parts (deep_part inner))

abbrev pub reference_value : ReferenceTree × Expressions → Expression
reference_value r = reference_expression r.0 r.1

-- NUMBER | TYPED | STRING | 'TRUE' | 'FALSE'
unfoldable pub literal : Form Expression
literal = as_value (λ token. literal_expression (literal_use token)) (one literal_kinds)

abbrev pub in_parentheses : Lexeme × (Expression × Lexeme) → Expression
in_parentheses v = parentheses v.1.0 (across v.0.span v.1.1.span)

-- '(' expr ')'
unfoldable pub parenthesized : Form Expression → Form Expression
parenthesized inner = as_value in_parentheses (both (key OpenParenthesis) (both inner (key CloseParenthesis)))

-- an operand at the last level
unfoldable pub flat_primary : Form Expression
flat_primary = either literal (as_value reference_value flat_reference)

-- an operand at the other levels
unfoldable pub deep_primary : Form Expression → Form Expression
deep_primary inner = either literal (either (as_value reference_value (deep_reference inner)) (parenthesized inner))

abbrev pub with_sign : Option UnaryUse → Expression → Expression
with_sign None e = e
with_sign (Some operator) e = unary_expression operator e

-- ['+' | '-' | 'NOT'] primary
unfoldable pub unary : Form Expression → Form Expression
unary primary = as_value (λ v. with_sign v.0 v.1) (both (option (as_value unary_use (one signs))) primary)

-- one operand is itself, and several are a row
abbrev pub row_of : Expression → List (BinaryUse × Expression) → Expression
row_of e [] = e
row_of e (o ∷ os) = row_expression e (operands_of (o ∷ os))

-- an operator and an operand
unfoldable pub operand : List Kind → Form Expression → Form (BinaryUse × Expression)
operand kinds x = both (as_value binary_use (one kinds)) x

-- x {operator x}
unfoldable pub row : List Kind → Form Expression → Form Expression
row kinds x = as_value (λ v. row_of v.0 v.1) (both x (many (operand kinds x)))

-- rows with the operators of these strengths; the operands of each are rows of the strengths after it
unfoldable pub rows : List (List Kind) → Form Expression → Form Expression
rows [] x = x
rows (kinds ∷ stronger) x = row kinds (rows stronger x)

-- an expression with this number of levels below its own
unfoldable pub expression : ℕ → Form Expression
expression zero = rows strengths (unary flat_primary)
expression (suc n) = rows strengths (unary (deep_primary (expression n)))

-- an operand of such an expression
abbrev pub primary : ℕ → Form Expression
primary zero = flat_primary
primary (suc n) = deep_primary (expression n)

-- in such an expression, one with the operators of a strength and of the stronger ones
abbrev pub row_at : ℕ → ℕ → Form Expression
row_at strength n = rows (drop strength strengths) (unary (primary n))

-- in such an expression, an operator of a strength with its operand
abbrev pub operand_at : ℕ → ℕ → Form (BinaryUse × Expression)
operand_at strength n = operand (operators strength) (row_at (strength + 1) n)

-- a reference in such an expression
unfoldable pub reference : ℕ → Form (ReferenceTree × Expressions)
reference zero = flat_reference
reference (suc n) = deep_reference (expression n)
