-- The places of names and expressions.
use Rattle.std.specs.Prelude.{◌≡◌, ◌≢◌, List, [], ◌∷◌, Option, Some, None}
use Rattle.fb_laws.specs.Common.{NameUse, Span, ReferenceTree, Expression, literal_expression, reference_expression, unary_expression, row_expression, parentheses, Expressions, Operands, no_operands, operand_then, BinaryUse, UnaryUse, Member}
use Rattle.fb_tree.specs.declared.constant.Literal.{Literal}
use Rattle.fb_expr.specs.Spans.{across}

-- from the first name through the last
abbrev pub span_through : NameUse → Option NameUse → Span
span_through name None = name.span
span_through name (Some last) = record { start = name.span.start; end = last.span.end }

-- the place of the names that a reference begins at a variable by: the first one, through a second one that follows it directly, with no subscript
-- between them
pub data BeginsAt (r : ReferenceTree) : Span → Type 0 where
  alone : r.members ≡ [] → BeginsAt r r.name.span
  subscripted : r.subscripts ≢ 0 → BeginsAt r r.name.span
  with_second : (m : Member) (others : List Member) → r.subscripts ≡ 0 → r.members ≡ m ∷ others
      → BeginsAt r (span_through r.name (Some m.name))

-- the last operand of a row
pub data IsLast (e : Expression) : Operands → Type 0 where
  only : {used : BinaryUse} → IsLast e (operand_then used e no_operands)
  later : {used : BinaryUse} {x : Expression} {others : Operands} → IsLast e others
      → IsLast e (operand_then used x others)

-- The place of an expression: a reference with its subscripts, an operator through its operand, the first operand of a row through the last, and
-- parentheses with what they enclose.
pub data StandsAt : Expression → Span → Type 0 where
  literal : {l : Literal} → StandsAt (literal_expression l) l.span
  reference : {r : ReferenceTree} {subscripts : Expressions}
      → StandsAt (reference_expression r subscripts) r.span
  operator : {used : UnaryUse} {x : Expression} (s : Span) → StandsAt x s
      → StandsAt (unary_expression used x) (across used.span s)
  row : {first : Expression} {operands : Operands} (x : Expression) (a b : Span) → StandsAt first a
      → IsLast x operands → StandsAt x b → StandsAt (row_expression first operands) (across a b)
  no_row : {first : Expression} {s : Span} → StandsAt first s → StandsAt (row_expression first no_operands) s
  enclosed : {x : Expression} {s : Span} → StandsAt (parentheses x s) s
