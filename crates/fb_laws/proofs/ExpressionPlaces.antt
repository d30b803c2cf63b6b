-- The place of each expression, by the function of the check.
use Rattle.fb_laws.proofs.Common.{arith, ◌≡◌, refl, ap, ◌∙◌, Span, Expression, literal_expression, reference_expression, unary_expression, row_expression, parentheses, Operands, no_operands, operand_then, BinaryUse, span_of, IsLast, only, later, StandsAt, no_row, across, span_through}
use Rattle.fb_laws.specs.Places.{literal, reference, operator, row, enclosed}

-- the last of these operands, if one is there
data Ending : Operands → Type 0 where
  no_end : Ending no_operands
  ending : {operands : Operands} (x : Expression) (s : Span) → IsLast x operands → StandsAt x s → ((a : Span) → span_through a operands ≡ across a s) → Ending operands

one_more : (used : BinaryUse) (x : Expression) (others : Operands) → StandsAt x (span_of x) → Ending others → Ending (operand_then used x others)
one_more used x no_operands here no_end = ending x (span_of x) only here (λ a. refl)
one_more used x others here (ending y s last there whole) = ending y s (later last) there (λ a. whole (across a (span_of x)))

of_row : (first : Expression) (operands : Operands) → StandsAt first (span_of first) → Ending operands → StandsAt (row_expression first operands) (span_through (span_of first) operands)
of_row first operands here end = grind (arith, no_row, row)

mutual
  pub stands : (e : Expression) → StandsAt e (span_of e)
  stands (literal_expression l) = literal
  stands (reference_expression r subscripts) = reference
  stands (unary_expression used x) = operator (span_of x) (stands x)
  stands (row_expression first operands) = of_row first operands (stands first) (ends operands)
  stands (parentheses x span) = enclosed

  ends : (operands : Operands) → Ending operands
  ends no_operands = no_end
  ends (operand_then used x others) = one_more used x others (stands x) (ends others)

-- and no other

told_end : {x : Expression} (a : Span) {operands : Operands} → IsLast x operands → span_through a operands ≡ across a (span_of x)
told_end a only = refl
told_end a (later {x = y} last) = told_end (across a (span_of y)) last

pub told_stands : {e : Expression} {s : Span} → StandsAt e s → span_of e ≡ s
told_stands literal = refl
told_stands reference = refl
told_stands (operator {used = used} t there) = ap (across used.span) (told_stands there)
told_stands (row {operands = operands} x a b here last there) = ap (λ k. span_through k operands) (told_stands here) ∙ told_end a last ∙ ap (across a) (told_stands there)
told_stands (no_row here) = told_stands here
told_stands enclosed = refl
