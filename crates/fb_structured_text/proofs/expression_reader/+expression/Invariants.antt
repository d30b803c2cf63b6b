use Rattle.std.proofs.Common.{◌≡◌, ◌+◌, ◌-◌, ◌*◌, ◌∷◌, [], length, map}
use Rattle.fb_tree.specs.Expression.{expression_tree, operand_tree}
use Rattle.fb_structured_text.specs.{Expression.{deep_part, expression, expressions, further_part, operand_at, primary, unary}, Part.{part_tree}}
use Rattle.fb_grammar.specs.{Form.{many}, Reading.{read}, Words.{further}, Repetition.{with_prefix}}
use Rattle.fb_structured_text.proofs.Rows.{IsBuilt}
use Rattle.fb_structured_text.proofs.expression_reader.+expression.Given as goal

-- A level is left behind in parentheses and in brackets; within one, the way leads from weaker operators to stronger ones.
abbrev pub decreases-expression_at : goal.decreases-expression_at
decreases-expression_at l = l.left * 64 + 40

abbrev pub decreases-row : goal.decreases-row
decreases-row l = l.left * 64 + (39 - 3 * l.strength)

-- rows are built of the operators that are stronger than the next one
abbrev pub invariant-row-loop-level : goal.invariant-row-loop-level
invariant-row-loop-level l = IsBuilt l.strength l.level (unary (primary l.left)) l.fn.tokens (expression_tree l.value) l.tokens

abbrev pub decreases-row-loop-level : goal.decreases-row-loop-level
decreases-row-loop-level l = length l.tokens

abbrev pub decreases-further_operands : goal.decreases-further_operands
decreases-further_operands l = l.left * 64 + (38 - 3 * l.strength)

abbrev pub decreases-next_operand : goal.decreases-next_operand
decreases-next_operand l = l.left * 64 + (37 - 3 * l.strength)

abbrev pub decreases-unary : goal.decreases-unary
decreases-unary l = l.left * 64 + 14

abbrev pub decreases-primary : goal.decreases-primary
decreases-primary l = l.left * 64 + 13

abbrev pub decreases-deep_primary : goal.decreases-deep_primary
decreases-deep_primary l = l.below * 64 + 76

abbrev pub decreases-variable_operand : goal.decreases-variable_operand
decreases-variable_operand l = l.below * 64 + 75

abbrev pub decreases-deep_reference : goal.decreases-deep_reference
decreases-deep_reference l = l.below * 64 + 74

abbrev pub decreases-further_parts : goal.decreases-further_parts
decreases-further_parts l = l.below * 64 + 73

abbrev pub decreases-further_part : goal.decreases-further_part
decreases-further_part l = l.below * 64 + 72

abbrev pub decreases-deep_part : goal.decreases-deep_part
decreases-deep_part l = l.below * 64 + 71

abbrev pub decreases-part_behind : goal.decreases-part_behind
decreases-part_behind l = l.below * 64 + 70

abbrev pub decreases-parenthesized : goal.decreases-parenthesized
decreases-parenthesized l = l.below * 64 + 75

abbrev pub decreases-subscripts : goal.decreases-subscripts
decreases-subscripts l = l.below * 64 + 69

abbrev pub decreases-expressions : goal.decreases-expressions
decreases-expressions l = l.below * 64 + 68

abbrev pub decreases-further_expression : goal.decreases-further_expression
decreases-further_expression l = l.below * 64 + 67

abbrev pub invariant-expressions-loop-alloc : goal.invariant-expressions-loop-alloc
invariant-expressions-loop-alloc l = with_prefix (map expression_tree l.expressions.items) (read (many (further (expression l.below))) l.tokens) ≡ read (expressions (expression l.below)) l.fn.tokens

abbrev pub decreases-expressions-loop-alloc : goal.decreases-expressions-loop-alloc
decreases-expressions-loop-alloc l = length l.tokens

abbrev pub invariant-further_operands-loop-alloc : goal.invariant-further_operands-loop-alloc
invariant-further_operands-loop-alloc l =
    let several = many (operand_at l.strength l.left) in
    with_prefix (map operand_tree l.operands.items) (read several l.tokens) ≡ with_prefix (operand_tree (l.fn.operator, l.fn.operand) ∷ []) (read several l.fn.tokens)

abbrev pub decreases-further_operands-loop-alloc : goal.decreases-further_operands-loop-alloc
decreases-further_operands-loop-alloc l = length l.tokens

abbrev pub invariant-further_parts-loop-alloc : goal.invariant-further_parts-loop-alloc
invariant-further_parts-loop-alloc l =
    let several = many (further_part (deep_part (expression l.below))) in
    with_prefix (map part_tree l.parts.items) (read several l.tokens) ≡ read several l.fn.tokens

abbrev pub decreases-further_parts-loop-alloc : goal.decreases-further_parts-loop-alloc
decreases-further_parts-loop-alloc l = length l.tokens
