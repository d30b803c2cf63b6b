-- Expressions without their place in memory.
use Rattle.std.specs.Prelude.{ℕ, List, [], ◌∷◌, box_value}
use Rattle.fb_text.specs.{declared.token.Span.{Span}, declared.name.NameUse.{NameUse}}
use Rattle.fb_tree.specs.{Reference.{first_use, further_names}, declared.constant.Literal.{Literal as LiteralUse}, declared.expression.BinaryUse.{BinaryUse}}
use Rattle.fb_tree.specs.{declared.expression.UnaryUse.{UnaryUse}, declared.reference.Member.{Member}, declared.reference.Reference.{Reference as ReferenceUse}}
use Rattle.fb_tree.specs.{declared.expression.Expr.{Expr}, declared.expression.Expr.TheOpen.{Expr-F, Literal, Name, Reference, Unary, Pair, Row, Parentheses}}
use Rattle.fb_tree.specs.declared.expression.Expr.TheFolds.{fold-Expr}

-- names with points between them, and how many subscripts follow each; the subscripts of all of them are beside it in one list
pub record ReferenceTree : Type 0 where
  pub name : NameUse
  -- how many subscripts follow the first name
  pub subscripts : ℕ
  -- the names after the first one, each with the number of its subscripts
  pub members : List Member
  -- from the first name through the last name or bracket
  pub span : Span

abbrev pub reference_tree : ReferenceUse → ReferenceTree
reference_tree r = record {
  name = first_use r.names;
  subscripts = r.subscripts;
  members = further_names r.names;
  span = r.span;
}

-- only a name
abbrev pub alone_tree : NameUse → ReferenceTree
alone_tree used = record { name = used; subscripts = 0; members = []; span = used.span }

mutual
  pub data Expression : Type 0 where
    literal_expression : LiteralUse → Expression
    -- a reference with its subscripts
    reference_expression : ReferenceTree → Expressions → Expression
    unary_expression : UnaryUse → Expression → Expression
    -- an operand, and operators of one strength, each with the operand after it
    row_expression : Expression → Operands → Expression
    parentheses : Expression → Span → Expression

  pub data Expressions : Type 0 where
    no_expressions : Expressions
    expression_then : Expression → Expressions → Expressions

  pub data Operands : Type 0 where
    no_operands : Operands
    operand_then : BinaryUse → Expression → Operands → Operands

abbrev pub expressions_of : List Expression → Expressions
expressions_of [] = no_expressions
expressions_of (e ∷ es) = expression_then e (expressions_of es)

abbrev pub operands_of : List (BinaryUse × Expression) → Operands
operands_of [] = no_operands
operands_of (o ∷ os) = operand_then o.0 o.1 (operands_of os)

-- one level, with the expression of each part in its place
abbrev pub expression_step : Expr-F Expression → Expression
expression_step (Literal l) = literal_expression l
expression_step (Name used) = reference_expression (alone_tree used) no_expressions
expression_step (Reference r subscripts) = reference_expression (reference_tree (box_value r)) (expressions_of subscripts.items)
expression_step (Unary operator e) = unary_expression operator (box_value e)
expression_step (Pair p) = row_expression (box_value p).0 (operand_then (box_value p).1 (box_value p).2 no_operands)
expression_step (Row e operands) = row_expression (box_value e) (operands_of operands.items)
expression_step (Parentheses e span) = parentheses (box_value e) span

abbrev pub expression_tree : Expr → Expression
expression_tree = fold-Expr Expression expression_step

abbrev pub operand_tree : BinaryUse × Expr → BinaryUse × Expression
operand_tree o = (o.0, expression_tree o.1)
