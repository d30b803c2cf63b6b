use Rattle.std.proofs.Common.{◌≡◌, ◌≤◌, ◌<◌, ℕ, ◌+◌, ◌∷◌, [], true, false, Ok, List, length, map, rules, ap, sym, refl, subst, ◌∙◌, arith}
use Rattle.std.proofs.lemmas.Result.{err_from_is_err_and}
use Rattle.fb_grammar.specs.{declared.kind.Kind.{Kind}, declared.lexeme.Lexeme.{Lexeme}, declared.kind.Kind.TheVariants.{Comma, Point, OpenBracket}}
use Rattle.fb_grammar.specs.{Form.{many}, Reading.{is_next, read}, Repetition.{with_prefix}, Words.{further}}
use Rattle.fb_tree.specs.{declared.expression.BinaryUse.{BinaryUse}, declared.expression.Expr.{Expr}}
use Rattle.fb_tree.specs.{declared.expression.Expr.TheOpen.{Pair as PairF, Row as RowF}, declared.expression.Expr.TheViews.{roll-Expr}}
use Rattle.fb_tree.specs.declared.expression.Expr.TheFolds.{fold-roll-Expr}
use Rattle.fb_tree.specs.Expression.{Expression, Expressions, ReferenceTree, row_expression, operand_tree, operands_of, expression_step, expression_tree}
use denote.Hole.Carrier.{roll}
use Rattle.fb_structured_text.specs.{Expression.{PartTree, deep_part, expression, expressions, further_part, operand, primary, row_at, unary}, Part.{part_tree}}
use Rattle.fb_structured_text.specs.Operators.{next_strength, operators}
use Rattle.fb_structured_text.proofs.Rows.{IsBuilt, begins-operand, begins-further_part, built_first, built_fails, built_pair, built_row, built_row_fails, operands_shorter, rows_first_fails, expression_is, primary_reference, primary_parentheses}
use Rattle.fb_structured_text.proofs.Variables.{behind_first, deep_alone, deep_name_fails, no_subscripts, part_fails, parts_fail, read_deep, read_part, subscripts_fail, subscripts_read, ended_at}
use Rattle.fb_structured_text.proofs.expression_reader.+expression.Goals.{row-then-next_strength-level+in_ok-operands+in_ok-new, row-else-next_strength-level+in_ok-new-2}
use Rattle.fb_grammar.proofs.Loops.{shorter, push_more, push_fails, push_done}
use Rattle.fb_structured_text.proofs.expression_reader.+expression.Goals as goal

pub deep_primary-returns-then-is_next : goal.deep_primary-returns-then-is_next
deep_primary-returns-then-is_next t c =
    rw (primary_reference (expression c.args.below) c.args.tokens.now (sym c.is_literal.ensures ∙ c.if-is_literal.false) (sym c.is_next.ensures ∙ c.if-is_next.true)) c.variable_operand.ensures

pub deep_primary-returns-else-is_next : goal.deep_primary-returns-else-is_next
deep_primary-returns-else-is_next t c =
    rw (primary_parentheses (expression c.args.below) c.args.tokens.now (sym c.is_literal.ensures ∙ c.if-is_literal.false) (sym c.is_next.ensures ∙ c.if-is_next.false)) c.parenthesized.ensures

pub deep_reference-returns-in_err-name : goal.deep_reference-returns-in_err-name
deep_reference-returns-in_err-name t c =
    let p = err_from_is_err_and c.from_residual.result c.from_residual.ensures.1 in
    rw (p.1, p.2) (deep_name_fails (expression c.args.below) c.args.tokens.now c.in_err-name.field-0.0 c.name.new.tokens c.in_err-name.ensures)

pub deep_reference-returns-then-not-is_next : goal.deep_reference-returns-then-not-is_next
deep_reference-returns-then-not-is_next t c =
    let none : is_next (OpenBracket ∷ Point ∷ []) c.name.new.tokens ≡ false = search rules in
    deep_alone (expression c.args.below) c.args.tokens.now c.in_ok-name.name c.name.new.tokens c.in_ok-name.ensures none

pub deep_reference-returns-in_err-first : goal.deep_reference-returns-in_err-first
deep_reference-returns-in_err-first t c =
    let p = err_from_is_err_and c.from_residual-in_err-first.result c.from_residual-in_err-first.ensures.1 in
    rw (p.1, p.2)
    (part_fails (expression c.args.below) c.args.tokens.now c.in_ok-name.name c.name.new.tokens c.in_err-first.field-0.0 c.part_behind.new.tokens c.in_ok-name.ensures c.in_err-first.ensures)

pub deep_reference-returns-in_err-others : goal.deep_reference-returns-in_err-others
deep_reference-returns-in_err-others t c =
    let p = err_from_is_err_and c.from_residual-in_err-others.result c.from_residual-in_err-others.ensures.1 in
    let inner = expression c.args.below in
    rw (p.1, p.2)
    (parts_fail inner c.args.tokens.now (part_tree c.in_ok-first.first) c.part_behind.new.tokens c.in_err-others.field-0.0 c.further_parts.new.tokens
    (read_part inner c.args.tokens.now c.in_ok-name.name c.name.new.tokens c.in_ok-name.ensures ∙ c.in_ok-first.ensures) c.in_err-others.ensures)

pub deep_reference-returns : goal.deep_reference-returns
deep_reference-returns t c =
    let inner = expression c.args.below in
    read_deep inner c.args.tokens.now (part_tree c.in_ok-first.first) c.part_behind.new.tokens
    (read_part inner c.args.tokens.now c.in_ok-name.name c.name.new.tokens c.in_ok-name.ensures ∙ c.in_ok-first.ensures)
    ∙ ap (behind_first (part_tree c.in_ok-first.first)) c.in_ok-others.ensures
    ∙ ap (λ (v : ReferenceTree × Expressions). Ok (v, c.further_parts.new.tokens)) (sym c.in_ok-joined.ensures)

pub expression_at-returns : goal.expression_at-returns
expression_at-returns t c = rw (expression_is c.args.left) c.row.ensures

pub expressions-loop-alloc-smaller : goal.expressions-loop-alloc-smaller
expressions-loop-alloc-smaller t c = shorter (further (expression c.args.below)) c.loop-alloc.tokens (expression_tree c.in_ok-next.next) c.further_expression.new.tokens refl c.in_ok-next.ensures

pub expressions-loop-alloc-preserved : goal.expressions-loop-alloc-preserved
expressions-loop-alloc-preserved t c =
    push_more expression_tree (further (expression c.args.below)) (Comma ∷ []) c.loop-alloc.expressions.items c.push-in-loop-alloc.new.self.items c.in_ok-next.next c.loop-alloc.tokens c.further_expression.new.tokens
    (read (expressions (expression c.args.below)) c.args.tokens.now)
    (record { filled = refl; first = refl }) (sym c.is_next.ensures ∙ c.loop-alloc-test.true) c.in_ok-next.ensures c.in_ok-push-2.ensures.items c.loop-alloc.invariant

pub further_operands-loop-alloc-smaller : goal.further_operands-loop-alloc-smaller
further_operands-loop-alloc-smaller t c =
    let kinds = operators c.args.strength in
    let x = row_at (c.args.strength + 1) c.args.left in
    shorter (operand kinds x) c.loop-alloc.tokens (operand_tree c.in_ok-next_operand.field-0) c.next_operand.new.tokens (begins-operand kinds x).filled c.in_ok-next_operand.ensures

pub further_operands-loop-alloc-preserved : goal.further_operands-loop-alloc-preserved
further_operands-loop-alloc-preserved t c =
    let kinds = operators c.args.strength in
    let x = row_at (c.args.strength + 1) c.args.left in
    let next : is_next kinds c.loop-alloc.tokens ≡ true = ap (λ (k : List Kind). is_next k c.loop-alloc.tokens) (sym c.operators.ensures) ∙ sym c.is_next.ensures ∙ c.loop-alloc-test.true in
    push_more operand_tree (operand kinds x) kinds c.loop-alloc.operands.items c.push-in-loop-alloc.new.self.items c.in_ok-next_operand.field-0 c.loop-alloc.tokens c.next_operand.new.tokens
    (with_prefix (operand_tree (c.args.operator, c.args.operand) ∷ []) (read (many (operand kinds x)) c.args.tokens.now))
    (begins-operand kinds x) next c.in_ok-next_operand.ensures c.in_ok-push-2.ensures.items c.loop-alloc.invariant

pub further_operands-returns-in_err-next_operand : goal.further_operands-returns-in_err-next_operand
further_operands-returns-in_err-next_operand t c =
    let p = err_from_is_err_and c.from_residual-in_err-next_operand.result c.from_residual-in_err-next_operand.ensures.1 in
    let kinds = operators c.args.strength in
    let x = row_at (c.args.strength + 1) c.args.left in
    let next : is_next kinds c.loop-alloc.tokens ≡ true = ap (λ (k : List Kind). is_next k c.loop-alloc.tokens) (sym c.operators.ensures) ∙ sym c.is_next.ensures ∙ c.loop-alloc-test.true in
    rw (p.1, p.2)
    (push_fails (operand kinds x) kinds (map operand_tree c.loop-alloc.operands.items) c.loop-alloc.tokens c.next_operand.new.tokens c.in_err-next_operand.field-0.0
    (with_prefix (operand_tree (c.args.operator, c.args.operand) ∷ []) (read (many (operand kinds x)) c.args.tokens.now))
    (begins-operand kinds x) next c.in_err-next_operand.ensures c.loop-alloc.invariant)

pub further_operands-returns : goal.further_operands-returns
further_operands-returns t c =
    let kinds = operators c.args.strength in
    let x = row_at (c.args.strength + 1) c.args.left in
    let next : is_next kinds c.loop-alloc.tokens ≡ false = ap (λ (k : List Kind). is_next k c.loop-alloc.tokens) (sym c.operators.ensures) ∙ sym c.is_next.ensures ∙ c.loop-alloc-test.false in
    push_done (operand kinds x) kinds (map operand_tree c.loop-alloc.operands.items) c.loop-alloc.tokens
    (with_prefix (operand_tree (c.args.operator, c.args.operand) ∷ []) (read (many (operand kinds x)) c.args.tokens.now)) (begins-operand kinds x) next c.loop-alloc.invariant

pub further_parts-loop-alloc-smaller : goal.further_parts-loop-alloc-smaller
further_parts-loop-alloc-smaller t c =
    let x = further_part (deep_part (expression c.args.below)) in
    shorter x c.loop-alloc.tokens (part_tree c.in_ok-next.next) c.further_part.new.tokens refl c.in_ok-next.ensures

pub further_parts-loop-alloc-preserved : goal.further_parts-loop-alloc-preserved
further_parts-loop-alloc-preserved t c =
    let x = further_part (deep_part (expression c.args.below)) in
    push_more part_tree x (Point ∷ []) c.loop-alloc.parts.items c.push.new.self.items c.in_ok-next.next c.loop-alloc.tokens c.further_part.new.tokens (read (many x) c.args.tokens.now)
    (begins-further_part (deep_part (expression c.args.below))) (sym c.is_next.ensures ∙ c.loop-alloc-test.true) c.in_ok-next.ensures c.in_ok-push.ensures.items c.loop-alloc.invariant

pub part_behind-returns-then-not-is_next : goal.part_behind-returns-then-not-is_next
part_behind-returns-then-not-is_next t c =
    let none : is_next (OpenBracket ∷ []) c.args.tokens.now ≡ false = search rules in
    no_subscripts (expression c.args.below) c.args.name c.args.tokens.now none ∙ ap (λ (p : PartTree). Ok (p, c.args.tokens.now)) (sym c.alone.ensures)

pub part_behind-returns-in_err-subscripts : goal.part_behind-returns-in_err-subscripts
part_behind-returns-in_err-subscripts t c =
    let p = err_from_is_err_and c.from_residual.result c.from_residual.ensures.1 in
    let next : is_next (OpenBracket ∷ []) c.args.tokens.now ≡ true = search rules in
    rw (p.1, p.2) (subscripts_fail (expression c.args.below) c.args.name c.args.tokens.now c.in_err-subscripts.field-0.0 c.subscripts.new.tokens next c.in_err-subscripts.ensures)

pub part_behind-returns : goal.part_behind-returns
part_behind-returns t c =
    let next : is_next (OpenBracket ∷ []) c.args.tokens.now ≡ true = search rules in
    let subscripts = map expression_tree c.in_ok-subscripts.subscripts.items in
    subscripts_read (expression c.args.below) c.args.name c.args.tokens.now (subscripts, c.in_ok-subscripts.close) c.subscripts.new.tokens next c.in_ok-subscripts.ensures
    ∙ ap (λ (e : ℕ). Ok (ended_at c.args.name subscripts e, c.subscripts.new.tokens)) (sym c.end.ensures)

pub row-returns-in_err-value : goal.row-returns-in_err-value
row-returns-in_err-value t c =
    let p = err_from_is_err_and c.from_residual.result c.from_residual.ensures.1 in
    rw (p.1, p.2) (rows_first_fails c.args.strength (unary (primary c.args.left)) c.args.tokens.now c.in_err-value.field-0.0 c.unary.new.tokens c.requires c.in_err-value.ensures)

pub row-loop-level-init : goal.row-loop-level-init
row-loop-level-init t c =
    let x = unary (primary c.args.left) in
    rw c.next_strength-level.ensures (built_first c.args.strength x c.args.tokens.now (expression_tree c.in_ok-value.value) c.unary.new.tokens c.requires c.in_ok-value.ensures)

pub row-returns-in_err-operator : goal.row-returns-in_err-operator
row-returns-in_err-operator t c =
    let p = err_from_is_err_and c.from_residual-in_err-operator.result c.from_residual-in_err-operator.ensures.1 in
    rw (p.1, p.2)
    (built_fails c.args.strength c.loop-level.level (unary (primary c.args.left)) c.args.tokens.now (expression_tree c.loop-level.value) c.loop-level.tokens c.in_err-operator.field-0.0 c.next_operand.new.tokens
    (omega arith) (omega arith) c.loop-level.invariant c.in_err-operator.ensures)

pub row-returns-in_err-operands : goal.row-returns-in_err-operands
row-returns-in_err-operands t c =
    let p = err_from_is_err_and c.from_residual-in_err-operands.result c.from_residual-in_err-operands.ensures.1 in
    rw (p.1, p.2)
    (built_row_fails c.args.strength c.loop-level.level (unary (primary c.args.left)) c.args.tokens.now (expression_tree c.loop-level.value) c.loop-level.tokens
    (operand_tree (c.in_ok-operator.operator, c.in_ok-operator.operand)) c.next_operand.new.tokens c.in_err-operands.field-0.0 c.further_operands.new.tokens
    (omega arith) (omega arith) c.loop-level.invariant c.in_ok-operator.ensures c.in_err-operands.ensures)

pub row-loop-level-smaller : goal.row-loop-level-smaller
row-loop-level-smaller t c =
    let kinds = operators c.loop-level.level in
    let x = row_at (c.loop-level.level + 1) c.args.left in
    let o = operand_tree (c.in_ok-operator.operator, c.in_ok-operator.operand) in
    let falls : length c.if-next_strength-level.tokens < length c.loop-level.tokens = elim c.if-next_strength-level.branch [
      | row-then-next_strength-level+in_ok-operands+in_ok-new w ↦
          subst (λ (z : List Lexeme). length z < length c.loop-level.tokens) (sym w.tokens-is)
          (operands_shorter kinds x c.loop-level.tokens o c.next_operand.new.tokens (map operand_tree w.in_ok-operands.operands.items) w.further_operands.new.tokens c.in_ok-operator.ensures w.in_ok-operands.ensures)
      | row-else-next_strength-level+in_ok-new-2 w ↦
          subst (λ (z : List Lexeme). length z < length c.loop-level.tokens) (sym w.tokens-is)
          (shorter (operand kinds x) c.loop-level.tokens o c.next_operand.new.tokens (begins-operand kinds x).filled c.in_ok-operator.ensures)
    ] in
    falls

pub row-loop-level-preserved : goal.row-loop-level-preserved
unfolding roll-Expr roll
row-loop-level-preserved t c =
    let x = unary (primary c.args.left) in
    let s = c.args.strength in
    let level = c.loop-level.level in
    let from = c.args.tokens.now in
    let e = expression_tree c.loop-level.value in
    let o = operand_tree (c.in_ok-operator.operator, c.in_ok-operator.operand) in
    let low : s ≤ level = omega arith in
    let within : level < 8 = omega arith in
    let whole : IsBuilt s (next_strength c.if-next_strength-level.tokens) x from (expression_tree c.if-next_strength-level.value) c.if-next_strength-level.tokens = elim c.if-next_strength-level.branch [
      | row-then-next_strength-level+in_ok-operands+in_ok-new w ↦
          let operands = map operand_tree w.in_ok-operands.operands.items in
          let tree : expression_tree c.if-next_strength-level.value ≡ row_expression e (operands_of operands) =
          ap expression_tree w.value-is ∙ fold-roll-Expr Expression expression_step (RowF w.in_ok-new.field-0 w.in_ok-operands.operands)
          ∙ ap (λ (z : Expr). row_expression (expression_tree z) (operands_of operands)) w.in_ok-new.ensures.ok in
          let built = built_row s level x from e c.loop-level.tokens o c.next_operand.new.tokens operands w.further_operands.new.tokens low within c.loop-level.invariant c.in_ok-operator.ensures w.in_ok-operands.ensures in
          subst (λ (v : Expression). IsBuilt s (next_strength c.if-next_strength-level.tokens) x from v c.if-next_strength-level.tokens) (sym tree)
          (subst (λ (z : List Lexeme). IsBuilt s (next_strength z) x from (row_expression e (operands_of operands)) z) (sym w.tokens-is) built)
      | row-else-next_strength-level+in_ok-new-2 w ↦
          let tree : expression_tree c.if-next_strength-level.value ≡ row_expression e (operands_of (o ∷ [])) =
          ap expression_tree w.value-is ∙ fold-roll-Expr Expression expression_step (PairF w.in_ok-new-2.field-0)
          ∙ ap (λ (z : Expr × BinaryUse × Expr). row_expression (expression_tree z.0) (operands_of (operand_tree (z.1, z.2) ∷ []))) w.in_ok-new-2.ensures.ok in
          let built = built_pair s level x from e c.loop-level.tokens o c.next_operand.new.tokens low within c.loop-level.invariant c.in_ok-operator.ensures (λ same. w.if-next_strength-level.false (c.next_strength.ensures ∙ same)) in
          subst (λ (v : Expression). IsBuilt s (next_strength c.if-next_strength-level.tokens) x from v c.if-next_strength-level.tokens) (sym tree)
          (subst (λ (z : List Lexeme). IsBuilt s (next_strength z) x from (row_expression e (operands_of (o ∷ []))) z) (sym w.tokens-is) built)
    ] in
    rw c.next_strength-level-in-loop-level.ensures whole
