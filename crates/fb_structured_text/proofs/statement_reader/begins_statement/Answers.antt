use Rattle.std.proofs.Common.{◌≡◌, nat_lt, sym, ap, ◌∙◌, arith}
use Rattle.fb_structured_text.proofs.Bodies.{begins_simple, begins_nested, begins_none}
use Rattle.fb_structured_text.proofs.statement_reader.begins_statement.Goals as goal

pub returns-then-begins_simple : goal.returns-then-begins_simple
returns-then-begins_simple c = c.if-begins_simple.true ∙ sym (begins_simple c.args.left c.args.tokens.now (sym c.begins_simple.ensures ∙ c.if-begins_simple.true))

pub returns-then-left-gt0 : goal.returns-then-left-gt0
returns-then-left-gt0 c = c.is_next.ensures ∙ sym (begins_nested c.args.left c.args.tokens.now (omega arith) (sym c.begins_simple.ensures ∙ c.if-begins_simple.false))

pub returns-else-left-gt0 : goal.returns-else-left-gt0
returns-else-left-gt0 c =
    let none : c.args.left ≡ 0 = omega arith in
    ap (nat_lt 0) none ∙ sym (begins_none c.args.left c.args.tokens.now none (sym c.begins_simple.ensures ∙ c.if-begins_simple.false))
