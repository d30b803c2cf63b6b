use Rattle.std.proofs.Common.{◌≡◌, ◌++◌, drop, map}
use Rattle.fb_tree.specs.Expression.{expression_tree, expressions_of, operands_of}
use Rattle.fb_expr.specs.{Names.{names_in}, Expressions.{row_class, row_faults, subscript_faults}}
use Rattle.fb_expr.proofs.expressions.+judge.Given as goal

abbrev pub invariant-judge_subscripts-loop-subscript : goal.invariant-judge_subscripts-loop-subscript
invariant-judge_subscripts-loop-subscript l =
    l.found.items ++ subscript_faults (names_in l.names) (expressions_of (map expression_tree (drop l.subscript-index l.subscripts)))
    ≡ l.initial.found.items ++ subscript_faults (names_in l.names) (expressions_of (map expression_tree l.subscripts))

abbrev pub invariant-judge_row-loop-operator : goal.invariant-judge_row-loop-operator
invariant-judge_row-loop-operator l = record {
  class : row_class (names_in l.names) l.left (operands_of (map (λ o. (o.0, expression_tree o.1)) (drop l.operator-index l.operands))) ≡ row_class (names_in l.names) l.fn.first (operands_of (map (λ o. (o.0, expression_tree o.1)) l.operands));
  faults : l.found.items ++ row_faults (names_in l.names) l.left (operands_of (map (λ o. (o.0, expression_tree o.1)) (drop l.operator-index l.operands))) ≡ l.initial.found.items ++ row_faults (names_in l.names) l.fn.first (operands_of (map (λ o. (o.0, expression_tree o.1)) l.operands));
}
