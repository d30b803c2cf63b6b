-- Statements without their place in memory.
use Rattle.std.specs.{Prelude.{List, [], ◌∷◌, Vec, map, Option, option_map, box_value}, declared.alloc.Global.{Global}}
use Rattle.fb_text.specs.{declared.token.Span.{Span}, declared.name.NameUse.{NameUse}}
use Rattle.fb_tree.specs.Expression.{ReferenceTree, alone_tree, reference_tree, Expression, Expressions, expressions_of, no_expressions, expression_tree}
use Rattle.fb_tree.specs.declared.statement.Stmt.TheOpen.{Stmt-F, Empty, Set, Assign, Exit, Return, If, Case, For, While, Repeat}
use Rattle.fb_tree.specs.declared.statement.Stmt.TheFolds.{fold-Stmt}
use Rattle.fb_tree.specs.{declared.expression.Expr.{Expr}, declared.statement.Stmt.{Stmt}}

mutual
  pub data Statement : Type 0 where
    empty : Statement
    -- the variable with its subscripts, the place of ':=' and the value
    assignment : ReferenceTree → Expressions → Span → Expression → Statement
    exit : Statement
    return : Statement
    -- conditions with what is done, and what is done after ELSE
    choice : Arms → Statements → Statement
    -- the selector, the statements of all cases, and those after ELSE
    selection : Expression → Statements → Statements → Statement
    -- the variable, from, to, by and the body
    count : NameUse → Expression → Expression → Option Expression → Statements → Statement
    while_loop : Expression → Statements → Statement
    repeat_loop : Statements → Expression → Statement

  pub data Statements : Type 0 where
    no_statements : Statements
    statement_then : Statement → Statements → Statements

  pub data Arms : Type 0 where
    no_arms : Arms
    arm_then : Expression → Statements → Arms → Arms

abbrev pub statements_of : List Statement → Statements
statements_of [] = no_statements
statements_of (s ∷ ss) = statement_then s (statements_of ss)

abbrev pub arms_of : List (Expression × List Statement) → Arms
arms_of [] = no_arms
arms_of (a ∷ others) = arm_then a.0 (statements_of a.1) (arms_of others)

-- one level, with the statement of each part in its place
abbrev pub statement_step : Stmt-F Statement → Statement
statement_step Empty = empty
statement_step (Set used place value) = assignment (alone_tree used) no_expressions place (expression_tree value)
statement_step (Assign r subscripts place value) = assignment (reference_tree (box_value r)) (expressions_of (map expression_tree subscripts.items)) place (expression_tree value)
statement_step Exit = exit
statement_step Return = return
statement_step (If arms otherwise) = choice (arms_of (map (λ a. (expression_tree a.0, a.1.items)) arms.items)) (statements_of otherwise.items)
statement_step (Case selector cases otherwise) = selection (expression_tree selector) (statements_of cases.items) (statements_of otherwise.items)
statement_step (For counting body) =
    let c = box_value counting in
    count c.variable (expression_tree c.from) (expression_tree c.to) (option_map expression_tree c.by) (statements_of body.items)
statement_step (While condition body) = while_loop (expression_tree condition) (statements_of body.items)
statement_step (Repeat body condition) = repeat_loop (statements_of body.items) (expression_tree condition)

abbrev pub statement_tree : Stmt → Statement
statement_tree = fold-Stmt Statement statement_step

abbrev pub arm_tree : Expr × Vec Stmt Global → Expression × List Statement
arm_tree a = (expression_tree a.0, map statement_tree a.1.items)
