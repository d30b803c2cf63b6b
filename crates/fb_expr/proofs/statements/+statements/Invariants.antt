use Rattle.std.proofs.Common.{◌≡◌, ◌++◌, drop, map}
use Rattle.fb_tree.specs.{Expression.{expression_tree}, Statement.{arms_of, statement_tree, statements_of}}
use Rattle.fb_expr.specs.{Names.{names_in}, Statements.{arms_faults, statements_faults}}
use Rattle.fb_expr.proofs.statements.+statements.Given as goal

abbrev pub invariant-report_statements-loop-statement : goal.invariant-report_statements-loop-statement
invariant-report_statements-loop-statement l =
    l.found.items ++ statements_faults (names_in l.names) (statements_of (map statement_tree (drop l.statement-index l.statements)))
    ≡ l.initial.found.items ++ statements_faults (names_in l.names) (statements_of (map statement_tree l.statements))

abbrev pub invariant-report_statement-loop-condition : goal.invariant-report_statement-loop-condition
invariant-report_statement-loop-condition l =
    l.found.items ++ arms_faults (names_in l.names) (arms_of (map (λ a. (expression_tree a.0, map statement_tree a.1.items)) (drop l.condition-index l.condition-items)))
    ≡ l.initial.found.items ++ arms_faults (names_in l.names) (arms_of (map (λ a. (expression_tree a.0, map statement_tree a.1.items)) l.condition-items))
