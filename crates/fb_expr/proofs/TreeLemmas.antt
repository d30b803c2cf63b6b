-- One level of an expression or a statement, in its mirror.
use Rattle.std.proofs.{Common.{◌≡◌, Box, Vec, map, option_map, ap, ◌∙◌}, lemmas.Simd.{map-map}}
use Rattle.std.specs.declared.alloc.Global.{Global}
use Rattle.fb_tree.specs.Expression.{Expression, expression_step, expression_tree, operand_tree, operands_of, row_expression}
use Rattle.fb_tree.specs.Statement.{Statement, arm_tree, arms_of, choice, count, repeat_loop, selection, statement_step, statement_tree, statements_of, while_loop}
use Rattle.fb_tree.specs.{declared.expression.BinaryUse.{BinaryUse}, declared.expression.Expr.{Expr}, declared.expression.Expr.TheFolds.{fold-roll-Expr}}
use Rattle.fb_tree.specs.{declared.expression.Expr.TheOpen.{Row as RowF}, declared.expression.Expr.TheViews.{roll-Expr}, declared.statement.Counting.{Counting}}
use Rattle.fb_tree.specs.{declared.statement.Stmt.{Stmt}, declared.statement.Stmt.TheFolds.{fold-roll-Stmt}}
use Rattle.fb_tree.specs.declared.statement.Stmt.TheOpen.{Case as CaseF, For as ForF, If as IfF, Repeat as RepeatF, While as WhileF}
use Rattle.fb_tree.specs.declared.statement.Stmt.TheViews.{roll-Stmt}
use Rattle.fb_tree.specs.declared.expression.Expr as Expr
use Rattle.fb_tree.specs.declared.statement.Stmt as Stmt
use denote.Hole.Carrier.{roll}

pub tree-Row : (first : Box Expr Global) (operands : Vec (BinaryUse × Expr) Global) → expression_tree (Expr.Row first operands) ≡ row_expression (expression_tree first.value) (operands_of (map operand_tree operands.items))
unfolding roll-Expr roll
tree-Row first operands = fold-roll-Expr Expression expression_step (RowF first operands)

pub tree-If : (arms : Vec (Expr × Vec Stmt Global) Global) (otherwise : Vec Stmt Global) → statement_tree (Stmt.If arms otherwise) ≡ choice (arms_of (map arm_tree arms.items)) (statements_of (map statement_tree otherwise.items))
unfolding roll-Stmt roll
tree-If arms otherwise =
    fold-roll-Stmt Statement statement_step (IfF arms otherwise)
    ∙ ap (λ l. choice (arms_of l) (statements_of (map statement_tree otherwise.items))) (map-map _ _ arms.items)

pub tree-Case : (selector : Expr) (cases otherwise : Vec Stmt Global) → statement_tree (Stmt.Case selector cases otherwise) ≡ selection (expression_tree selector) (statements_of (map statement_tree cases.items)) (statements_of (map statement_tree otherwise.items))
unfolding roll-Stmt roll
tree-Case selector cases otherwise = fold-roll-Stmt Statement statement_step (CaseF selector cases otherwise)

pub tree-For : (counting : Box Counting Global) (body : Vec Stmt Global) → statement_tree (Stmt.For counting body) ≡ count counting.value.variable (expression_tree counting.value.from) (expression_tree counting.value.to) (option_map expression_tree counting.value.by) (statements_of (map statement_tree body.items))
unfolding roll-Stmt roll
tree-For counting body = fold-roll-Stmt Statement statement_step (ForF counting body)

pub tree-While : (condition : Expr) (body : Vec Stmt Global) → statement_tree (Stmt.While condition body) ≡ while_loop (expression_tree condition) (statements_of (map statement_tree body.items))
unfolding roll-Stmt roll
tree-While condition body = fold-roll-Stmt Statement statement_step (WhileF condition body)

pub tree-Repeat : (body : Vec Stmt Global) (condition : Expr) → statement_tree (Stmt.Repeat body condition) ≡ repeat_loop (statements_of (map statement_tree body.items)) (expression_tree condition)
unfolding roll-Stmt roll
tree-Repeat body condition = fold-roll-Stmt Statement statement_step (RepeatF body condition)
