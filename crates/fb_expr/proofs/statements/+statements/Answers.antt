use Rattle.std.proofs.{Common.{◌≡◌, ◌++◌, ◌∙◌, List, ap, map, option_map, sym, append_assoc, arith}, lemmas.Grind.{common_steps}, lemmas.Result.{on_ok_weaker}}
use Rattle.fb_iface.specs.declared.fault.Fault.{Fault}
use Rattle.fb_tree.specs.{Expression.{expression_tree}, declared.statement.Counting.{Counting}, declared.statement.Stmt.{Stmt}}
use Rattle.fb_tree.specs.Statement.{arm_tree, arms_of, statement_tree, statements_of}
use Rattle.fb_expr.specs.{Names.{names_in}, Statements.{arms_faults, counter_faults, faults_at_place, range_faults, statement_faults, statements_faults}}
use Rattle.fb_expr.specs.declared.rules.ClassPlace.TheVariants.{Condition, Selector}
use Rattle.fb_expr.proofs.TreeLemmas.{tree-Case, tree-For, tree-If, tree-Repeat, tree-While}
use Rattle.fb_expr.proofs.statements.+statements.Goals as goal

pub report_statement-returns-after-loop-condition : goal.report_statement-returns-after-loop-condition
report_statement-returns-after-loop-condition t c =
    let names = names_in c.args.names in
    let old = c.args.found.now.items in
    let arms = c.in-If.arms.items in
    let otherwise = c.in-If.otherwise.items in
    let reported : c.loop-condition.found.items ≡ old ++ arms_faults names (arms_of (map arm_tree arms)) = grind (arith, common_steps) in
    on_ok_weaker c.report_statements-in-If.result
    (λ e. e
    ∙ (λ i. reported i ++ statements_faults names (statements_of (map statement_tree (c.as_slice-in-If.ensures.value i))))
    ∙ append_assoc old (arms_faults names (arms_of (map arm_tree arms))) (statements_faults names (statements_of (map statement_tree otherwise)))
    ∙ ap (λ s. old ++ statement_faults names s) (sym (tree-If c.in-If.arms c.in-If.otherwise))
    ∙ ap (λ s. old ++ statement_faults names (statement_tree s)) (sym c.in-If.is))
    c.report_statements-in-If.ensures

three_joined : (old a b c : List Fault) → ((old ++ a) ++ b) ++ c ≡ old ++ ((a ++ b) ++ c)
three_joined old a b c = simp append_assoc

pub report_statement-returns-in_ok-report_statements-in-Case : goal.report_statement-returns-in_ok-report_statements-in-Case
report_statement-returns-in_ok-report_statements-in-Case t c =
    let names = names_in c.args.names in
    let old = c.args.found.now.items in
    let done = λ (ss : List Stmt). statements_faults names (statements_of (map statement_tree ss)) in
    let judged : c.judge_at-in-Case.new.found.items ≡ old ++ faults_at_place Selector names (expression_tree c.in-Case.selector) = c.in_ok-judge_at-in-Case.ensures in
    let reported : c.report_statements-in-Case.new.found.items ≡ (old ++ faults_at_place Selector names (expression_tree c.in-Case.selector)) ++ done c.in-Case.cases.items =
    c.in_ok-report_statements-in-Case.ensures ∙ (λ i. judged i ++ done (c.as_slice-in-Case.ensures.value i)) in
    on_ok_weaker c.report_statements-in-Case-2.result
    (λ e. e
    ∙ (λ i. reported i ++ done (c.as_slice-in-Case-2.ensures.value i))
    ∙ three_joined old (faults_at_place Selector names (expression_tree c.in-Case.selector)) (done c.in-Case.cases.items) (done c.in-Case.otherwise.items)
    ∙ ap (λ s. old ++ statement_faults names s) (sym (tree-Case c.in-Case.selector c.in-Case.cases c.in-Case.otherwise))
    ∙ ap (λ s. old ++ statement_faults names (statement_tree s)) (sym c.in-Case.is))
    c.report_statements-in-Case-2.ensures

pub report_statement-returns-in_ok-report_counting-in-For : goal.report_statement-returns-in_ok-report_counting-in-For
report_statement-returns-in_ok-report_counting-in-For t c =
    let names = names_in c.args.names in
    let old = c.args.found.now.items in
    let done = λ (ss : List Stmt). statements_faults names (statements_of (map statement_tree ss)) in
    let counted = λ (k : Counting). counter_faults names k.variable ++ range_faults names (expression_tree k.from) (expression_tree k.to) (option_map expression_tree k.by) in
    let counting = c.in-For.counting.value in
    let reported : c.report_counting.new.found.items ≡ old ++ counted counting = c.in_ok-report_counting-in-For.ensures ∙ ap (λ k. old ++ counted k) c.deref-in-For.ensures in
    on_ok_weaker c.report_statements-in-For.result
    (λ e. e
    ∙ (λ i. reported i ++ done (c.as_slice-in-For.ensures.value i))
    ∙ append_assoc old (counted counting) (done c.in-For.body.items)
    ∙ ap (λ s. old ++ statement_faults names s) (sym (tree-For c.in-For.counting c.in-For.body))
    ∙ ap (λ s. old ++ statement_faults names (statement_tree s)) (sym c.in-For.is))
    c.report_statements-in-For.ensures

pub report_statement-returns-in_ok-judge_at-in-While : goal.report_statement-returns-in_ok-judge_at-in-While
report_statement-returns-in_ok-judge_at-in-While t c =
    let names = names_in c.args.names in
    let old = c.args.found.now.items in
    let done = λ (ss : List Stmt). statements_faults names (statements_of (map statement_tree ss)) in
    on_ok_weaker c.report_statements-in-While.result
    (λ e. e
    ∙ (λ i. c.in_ok-judge_at-in-While.ensures i ++ done (c.as_slice-in-While.ensures.value i))
    ∙ append_assoc old (faults_at_place Condition names (expression_tree c.in-While.condition)) (done c.in-While.body.items)
    ∙ ap (λ s. old ++ statement_faults names s) (sym (tree-While c.in-While.condition c.in-While.body))
    ∙ ap (λ s. old ++ statement_faults names (statement_tree s)) (sym c.in-While.is))
    c.report_statements-in-While.ensures

pub report_statement-returns-in_ok-report_statements-in-Repeat : goal.report_statement-returns-in_ok-report_statements-in-Repeat
report_statement-returns-in_ok-report_statements-in-Repeat t c =
    let names = names_in c.args.names in
    let old = c.args.found.now.items in
    let done = λ (ss : List Stmt). statements_faults names (statements_of (map statement_tree ss)) in
    let reported : c.report_statements-in-Repeat.new.found.items ≡ old ++ done c.in-Repeat.body.items = c.in_ok-report_statements-in-Repeat.ensures ∙ ap (λ l. old ++ done l) c.as_slice-in-Repeat.ensures.value in
    on_ok_weaker c.judge_at-in-Repeat.result
    (λ e. e
    ∙ ap (λ l. l ++ faults_at_place Condition names (expression_tree c.in-Repeat.condition)) reported
    ∙ append_assoc old (done c.in-Repeat.body.items) (faults_at_place Condition names (expression_tree c.in-Repeat.condition))
    ∙ ap (λ s. old ++ statement_faults names s) (sym (tree-Repeat c.in-Repeat.body c.in-Repeat.condition))
    ∙ ap (λ s. old ++ statement_faults names (statement_tree s)) (sym c.in-Repeat.is))
    c.judge_at-in-Repeat.ensures
