use Rattle.std.proofs.{Common.{◌≡◌, ◌++◌, ◌∙◌, ap, map, sym, append_assoc}, lemmas.Result.{IfOk-weaker, on_ok_weaker}}
use Rattle.fb_tree.specs.Expression.{expression_tree, operand_tree, operands_of}
use Rattle.fb_expr.specs.{Names.{names_in}, Expressions.{class_in, faults_in, row_class, row_faults}}
use Rattle.fb_expr.proofs.TreeLemmas.{tree-Row}
use Rattle.fb_expr.proofs.expressions.+judge.Goals as goal

pub judge-returns-in_ok-left-in-Row-clause-class : goal.judge-returns-in_ok-left-in-Row-clause-class
judge-returns-in_ok-left-in-Row-clause-class t c =
    let names = names_in c.args.names in
    let left : c.in_ok-left-in-Row.left ≡ class_in names (expression_tree c.in-Row.first.value) = c.in_ok-left-in-Row.ensures.class ∙ ap (λ e. class_in names (expression_tree e)) c.deref-in-Row.ensures in
    IfOk-weaker c.judge_row.result _ _
    (λ class is. is
    ∙ (λ i. row_class names (left i) (operands_of (map operand_tree (c.as_slice-in-Row.ensures.value i))))
    ∙ ap (class_in names) (sym (tree-Row c.in-Row.first c.in-Row.operands))
    ∙ ap (λ e. class_in names (expression_tree e)) (sym c.in-Row.is))
    c.judge_row.ensures.class

pub judge-returns-in_ok-left-in-Row-clause-faults : goal.judge-returns-in_ok-left-in-Row-clause-faults
judge-returns-in_ok-left-in-Row-clause-faults t c =
    let names = names_in c.args.names in
    let old = c.args.found.now.items in
    let first = expression_tree c.in-Row.first.value in
    let operands = operands_of (map operand_tree c.in-Row.operands.items) in
    let left : c.in_ok-left-in-Row.left ≡ class_in names first = c.in_ok-left-in-Row.ensures.class ∙ ap (λ e. class_in names (expression_tree e)) c.deref-in-Row.ensures in
    let reported : c.judge-in-Row.new.found.items ≡ old ++ faults_in names first = c.in_ok-left-in-Row.ensures.faults ∙ ap (λ e. old ++ faults_in names (expression_tree e)) c.deref-in-Row.ensures in
    on_ok_weaker c.judge_row.result
    (λ e. e
    ∙ (λ i. reported i ++ row_faults names (left i) (operands_of (map operand_tree (c.as_slice-in-Row.ensures.value i))))
    ∙ append_assoc old (faults_in names first) (row_faults names (class_in names first) operands)
    ∙ ap (λ x. old ++ faults_in names x) (sym (tree-Row c.in-Row.first c.in-Row.operands))
    ∙ ap (λ x. old ++ faults_in names (expression_tree x)) (sym c.in-Row.is))
    c.judge_row.ensures.faults
