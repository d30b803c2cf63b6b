use Rattle.std.proofs.Common.{◌≡◌, drop, map}
use Rattle.fb_tree.specs.Expression.{expression_tree, operands_of}
use Rattle.fb_expr.specs.Spans.{span_of, span_through}
use Rattle.fb_expr.proofs.spans.+span_of.Given as goal

abbrev pub invariant-loop-operand : goal.invariant-loop-operand
invariant-loop-operand l =
    span_through l.span (operands_of (map (λ o. (o.0, expression_tree o.1)) (drop l.operand-index l.operand-items))) ≡ span_of (expression_tree l.expr)
