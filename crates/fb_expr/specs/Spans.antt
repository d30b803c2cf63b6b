-- The spans of references and expressions.
use Rattle.std.specs.Prelude.{ℕ, zero, suc, List, [], ◌∷◌}
use Rattle.fb_tree.specs.{Text.declared.token.Span.{Span}, declared.reference.Member.{Member}}
use Rattle.fb_tree.specs.Expression.{ReferenceTree, Expression, literal_expression, reference_expression, unary_expression, row_expression, parentheses, Operands, no_operands, operand_then}

-- from the start of one to the end of the other
abbrev pub across : Span → Span → Span
across first last = record { start = first.start; end = last.end }

-- the first name, through the second one if that follows it directly
abbrev pub through_second : Span → ℕ → List Member → Span
through_second first count [] = first
through_second first zero (m ∷ others) = across first m.name.span
through_second first (suc count) (m ∷ others) = first

-- the names of a reference that mean a variable
abbrev pub names_span : ReferenceTree → Span
names_span r = through_second r.name.span r.subscripts r.members

abbrev mutual
  -- an expression, with the parentheses and the subscripts that belong to it
  pub span_of : Expression → Span
  span_of (literal_expression l) = l.span
  span_of (reference_expression r subscripts) = r.span
  span_of (unary_expression operator e) = across operator.span (span_of e)
  span_of (row_expression e operands) = span_through (span_of e) operands
  span_of (parentheses e span) = span

  -- from a span through the last of these operands
  pub span_through : Span → Operands → Span
  span_through span no_operands = span
  span_through span (operand_then operator e operands) = span_through (across span (span_of e)) operands
