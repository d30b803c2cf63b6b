use Rattle.std.proofs.{Common.{◌≡◌, ◌-◌, ◌∷◌, [], true≢false, eq-eqb, map, ap, sym, refl, ◌∙◌, arith}, lemmas.List.{map-append}, lemmas.Simd.{map-map}}
use Rattle.std.proofs.lemmas.Result.{err_from_is_err_and}
use Rattle.fb_grammar.specs.{declared.kind.Kind.TheVariants.{Elsif}, Form.{many}, Reading.{first, read}}
use Rattle.fb_grammar.proofs.Loops.{shorter, push_more, push_fails, push_done}
use Rattle.fb_tree.specs.declared.statement.Stmt as Stmt
use Rattle.fb_tree.specs.{declared.statement.Stmt.TheOpen.{If as IfF}, declared.statement.Stmt.TheViews.{roll-Stmt}}
use Rattle.fb_tree.specs.declared.statement.Stmt.TheFolds.{fold-roll-Stmt}
use Rattle.fb_tree.specs.Statement.{Statement, arm_tree, choice, arms_of, statements_of, statement_step, statement_tree}
use denote.Hole.Carrier.{roll}
use Rattle.fb_structured_text.specs.{Expression.{expression}, Statement.{arm, arms, case, cases, if_statement, nested_statement, simple_statement, statement}}
use Rattle.fb_structured_text.proofs.Bodies.{begins-statement, begins-arm, begins-case, cases_more, cases_fails, cases_done, statement_zero, statement_simple, statement_nested, nested_if, nested_case, nested_for, nested_while, nested_repeat}
use Rattle.fb_structured_text.proofs.statement_reader.+statement.Goals.{statement-then-left-eq0, statement-else-left-eq0}
use Rattle.fb_structured_text.proofs.statement_reader.+statement.Goals as goal

pub statements_at-loop-alloc-smaller : goal.statements_at-loop-alloc-smaller
statements_at-loop-alloc-smaller t c =
    shorter (statement c.args.left) c.loop-alloc.tokens (statement_tree c.in_ok-next.next) c.statement.new.tokens (begins-statement c.args.left).filled c.in_ok-next.ensures

pub statements_at-loop-alloc-preserved : goal.statements_at-loop-alloc-preserved
statements_at-loop-alloc-preserved t c =
    push_more statement_tree (statement c.args.left) (first (statement c.args.left)) c.loop-alloc.statements.items c.push.new.self.items c.in_ok-next.next c.loop-alloc.tokens c.statement.new.tokens (read (many (statement c.args.left)) c.args.tokens.now)
    (begins-statement c.args.left) (sym c.begins_statement.ensures ∙ c.loop-alloc-test.true) c.in_ok-next.ensures c.in_ok-push.ensures.items c.loop-alloc.invariant

pub arms-loop-alloc-smaller : goal.arms-loop-alloc-smaller
arms-loop-alloc-smaller t c =
    let e = expression c.args.left in
    let inner = statement (c.args.left - 1) in
    shorter (arm Elsif e inner) c.loop-alloc.tokens (arm_tree c.in_ok-next.next) c.arm-in-loop-alloc.new.tokens (begins-arm Elsif e inner).filled c.in_ok-next.ensures

pub arms-loop-alloc-preserved : goal.arms-loop-alloc-preserved
arms-loop-alloc-preserved t c =
    let e = expression c.args.left in
    let inner = statement (c.args.left - 1) in
    push_more arm_tree (arm Elsif e inner) (Elsif ∷ []) c.loop-alloc.arms.items c.push-in-loop-alloc.new.self.items c.in_ok-next.next c.loop-alloc.tokens c.arm-in-loop-alloc.new.tokens (read (arms e inner) c.args.tokens.now)
    (begins-arm Elsif e inner) (sym c.is_next.ensures ∙ c.loop-alloc-test.true) c.in_ok-next.ensures c.in_ok-push-2.ensures.items c.loop-alloc.invariant

pub arms-returns-in_err-next : goal.arms-returns-in_err-next
arms-returns-in_err-next t c =
    let p = err_from_is_err_and c.from_residual-in_err-next.result c.from_residual-in_err-next.ensures.1 in
    let e = expression c.args.left in
    let inner = statement (c.args.left - 1) in
    rw (p.1, p.2) (push_fails (arm Elsif e inner) (Elsif ∷ []) (map arm_tree c.loop-alloc.arms.items) c.loop-alloc.tokens c.arm-in-loop-alloc.new.tokens c.in_err-next.field-0.0 (read (arms e inner) c.args.tokens.now)
    (begins-arm Elsif e inner) (sym c.is_next.ensures ∙ c.loop-alloc-test.true) c.in_err-next.ensures c.loop-alloc.invariant)

pub arms-returns : goal.arms-returns
arms-returns t c =
    let e = expression c.args.left in
    let inner = statement (c.args.left - 1) in
    push_done (arm Elsif e inner) (Elsif ∷ []) (map arm_tree c.loop-alloc.arms.items) c.loop-alloc.tokens (read (arms e inner) c.args.tokens.now) (begins-arm Elsif e inner) (sym c.is_next.ensures ∙ c.loop-alloc-test.false) c.loop-alloc.invariant

pub cases-loop-alloc-smaller : goal.cases-loop-alloc-smaller
cases-loop-alloc-smaller t c =
    shorter (case (statement c.args.below)) c.loop-alloc.tokens (map statement_tree c.in_ok-more.more.items) c.case-in-loop-alloc.new.tokens (begins-case (statement c.args.below)).filled c.in_ok-more.ensures

pub cases-loop-alloc-preserved : goal.cases-loop-alloc-preserved
cases-loop-alloc-preserved t c =
    cases_more (statement c.args.below) (map statement_tree c.loop-alloc.statements.items) (map statement_tree c.append.new.self.items) c.loop-alloc.tokens (map statement_tree c.in_ok-more.more.items) c.case-in-loop-alloc.new.tokens (read (cases (statement c.args.below)) c.args.tokens.now)
    (sym c.begins_label.ensures ∙ c.loop-alloc-test.true) c.in_ok-more.ensures (ap (map statement_tree) c.in_ok-append.ensures.items ∙ map-append statement_tree c.loop-alloc.statements.items c.in_ok-more.more.items) c.loop-alloc.invariant

pub cases-returns-in_err-more : goal.cases-returns-in_err-more
cases-returns-in_err-more t c =
    let p = err_from_is_err_and c.from_residual-in_err-more.result c.from_residual-in_err-more.ensures.1 in
    rw (p.1, p.2) (cases_fails (statement c.args.below) (map statement_tree c.loop-alloc.statements.items) c.loop-alloc.tokens c.in_err-more.field-0.0 c.case-in-loop-alloc.new.tokens (read (cases (statement c.args.below)) c.args.tokens.now)
    (sym c.begins_label.ensures ∙ c.loop-alloc-test.true) c.in_err-more.ensures c.loop-alloc.invariant)

pub cases-returns : goal.cases-returns
cases-returns t c =
    cases_done (statement c.args.below) (map statement_tree c.loop-alloc.statements.items) c.loop-alloc.tokens (read (cases (statement c.args.below)) c.args.tokens.now)
    (sym c.begins_label.ensures ∙ c.loop-alloc-test.false) c.loop-alloc.invariant

pub if_statement-returns : goal.if_statement-returns
unfolding if_statement roll-Stmt roll
if_statement-returns t c =
    let folded : statement_tree (Stmt.If c.in_ok-arms.arms c.in_ok-otherwise.otherwise) ≡ choice (arms_of (map arm_tree c.in_ok-arms.arms.items)) (statements_of (map statement_tree c.in_ok-otherwise.otherwise.items)) =
    fold-roll-Stmt Statement statement_step (IfF c.in_ok-arms.arms c.in_ok-otherwise.otherwise)
    ∙ ap (λ z. choice (arms_of z) (statements_of (map statement_tree c.in_ok-otherwise.otherwise.items))) (map-map _ _ c.in_ok-arms.arms.items) in
    rw (folded, c.in_ok-arms.ensures, c.in_ok-otherwise.ensures, c.in_ok-key.ensures.reads) refl

pub nested_statement-returns-then-is_next : goal.nested_statement-returns-then-is_next
nested_statement-returns-then-is_next t c =
    rw (nested_if (expression c.args.left) (statement (c.args.left - 1)) c.args.tokens.now (sym c.is_next.ensures ∙ c.if-is_next.true)) c.if_statement.ensures

pub nested_statement-returns-then-is_next-2 : goal.nested_statement-returns-then-is_next-2
nested_statement-returns-then-is_next-2 t c =
    rw (nested_case (expression c.args.left) (statement (c.args.left - 1)) c.args.tokens.now (sym c.is_next.ensures ∙ c.if-is_next.false) (sym c.is_next-else-is_next.ensures ∙ c.if-is_next-2.true)) c.case_statement.ensures

pub nested_statement-returns-then-is_next-3 : goal.nested_statement-returns-then-is_next-3
nested_statement-returns-then-is_next-3 t c =
    rw (nested_for (expression c.args.left) (statement (c.args.left - 1)) c.args.tokens.now (sym c.is_next.ensures ∙ c.if-is_next.false) (sym c.is_next-else-is_next.ensures ∙ c.if-is_next-2.false) (sym c.is_next-else-is_next-2.ensures ∙ c.if-is_next-3.true)) c.for_statement.ensures

pub nested_statement-returns-then-is_next-4 : goal.nested_statement-returns-then-is_next-4
nested_statement-returns-then-is_next-4 t c =
    rw (nested_while (expression c.args.left) (statement (c.args.left - 1)) c.args.tokens.now (sym c.is_next.ensures ∙ c.if-is_next.false) (sym c.is_next-else-is_next.ensures ∙ c.if-is_next-2.false) (sym c.is_next-else-is_next-2.ensures ∙ c.if-is_next-3.false) (sym c.is_next-else-is_next-3.ensures ∙ c.if-is_next-4.true)) c.while_statement.ensures

pub nested_statement-returns-else-is_next-4 : goal.nested_statement-returns-else-is_next-4
nested_statement-returns-else-is_next-4 t c =
    rw (nested_repeat (expression c.args.left) (statement (c.args.left - 1)) c.args.tokens.now (sym c.is_next.ensures ∙ c.if-is_next.false) (sym c.is_next-else-is_next.ensures ∙ c.if-is_next-2.false) (sym c.is_next-else-is_next-2.ensures ∙ c.if-is_next-3.false) (sym c.is_next-else-is_next-3.ensures ∙ c.if-is_next-4.false)) c.repeat_statement.ensures

pub statement-returns-then-begins_simple : goal.statement-returns-then-begins_simple
statement-returns-then-begins_simple t c =
    let same : read (statement c.args.left) c.args.tokens.now ≡ read (simple_statement c.args.left) c.args.tokens.now = elim c.if-left-eq0.branch [
      | statement-then-left-eq0 w ↦ statement_zero c.args.left c.args.tokens.now w.if-left-eq0.true
      | statement-else-left-eq0 w ↦ statement_simple c.args.left c.args.tokens.now (sym w.begins_simple.ensures ∙ sym w.value-is ∙ c.if-begins_simple.true)
    ] in
    rw same c.simple_statement.ensures

pub statement-returns-else-begins_simple : goal.statement-returns-else-begins_simple
statement-returns-else-begins_simple t c =
    let same : read (statement c.args.left) c.args.tokens.now ≡ read (nested_statement (expression c.args.left) (statement (c.args.left - 1))) c.args.tokens.now = elim c.if-left-eq0.branch [
      | statement-then-left-eq0 w ↦ absurd (true≢false (sym (eq-eqb c.args.left 0 w.if-left-eq0.true) ∙ sym w.value-is ∙ c.if-begins_simple.false))
      | statement-else-left-eq0 w ↦ statement_nested c.args.left c.args.tokens.now (omega (arith, w.if-left-eq0.false)) (sym w.begins_simple.ensures ∙ sym w.value-is ∙ c.if-begins_simple.false)
    ] in
    rw same c.nested_statement.ensures
