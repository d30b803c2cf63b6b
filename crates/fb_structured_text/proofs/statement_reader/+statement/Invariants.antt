use Rattle.std.proofs.Common.{◌≡◌, ◌+◌, ◌-◌, ◌*◌, length, map}
use Rattle.fb_grammar.specs.{declared.kind.Kind.TheVariants.{Elsif}, Form.{many}, Reading.{read}, Repetition.{with_prefix}}
use Rattle.fb_tree.specs.Statement.{arm_tree, statement_tree}
use Rattle.fb_structured_text.specs.{Expression.{expression}, Statement.{arm, arms, case, cases, statement}}
use Rattle.fb_structured_text.proofs.Bodies.{flat}
use Rattle.fb_structured_text.proofs.statement_reader.+statement.Given as goal

-- A level is left behind between the words of a nested statement.
abbrev pub decreases-statements_at : goal.decreases-statements_at
decreases-statements_at l = l.left * 32 + 20

abbrev pub decreases-statement : goal.decreases-statement
decreases-statement l = l.left * 32 + 19

abbrev pub decreases-nested_statement : goal.decreases-nested_statement
decreases-nested_statement l = l.left * 32 + 18

abbrev pub decreases-if_statement : goal.decreases-if_statement
decreases-if_statement l = l.left * 32 + 17

abbrev pub decreases-case_statement : goal.decreases-case_statement
decreases-case_statement l = l.left * 32 + 17

abbrev pub decreases-for_statement : goal.decreases-for_statement
decreases-for_statement l = l.left * 32 + 17

abbrev pub decreases-while_statement : goal.decreases-while_statement
decreases-while_statement l = l.left * 32 + 17

abbrev pub decreases-repeat_statement : goal.decreases-repeat_statement
decreases-repeat_statement l = l.left * 32 + 17

abbrev pub decreases-arms : goal.decreases-arms
decreases-arms l = l.left * 32 + 16

abbrev pub decreases-arm : goal.decreases-arm
decreases-arm l = l.left * 32 + 15

abbrev pub decreases-cases : goal.decreases-cases
decreases-cases l = l.below * 32 + 22

abbrev pub decreases-case : goal.decreases-case
decreases-case l = l.below * 32 + 21

abbrev pub decreases-otherwise : goal.decreases-otherwise
decreases-otherwise l = l.below * 32 + 21

abbrev pub decreases-enclosed : goal.decreases-enclosed
decreases-enclosed l = l.below * 32 + 21

abbrev pub invariant-statements_at-loop-alloc : goal.invariant-statements_at-loop-alloc
invariant-statements_at-loop-alloc l = with_prefix (map statement_tree l.statements.items) (read (many (statement l.left)) l.tokens) ≡ read (many (statement l.left)) l.fn.tokens

abbrev pub decreases-statements_at-loop-alloc : goal.decreases-statements_at-loop-alloc
decreases-statements_at-loop-alloc l = length l.tokens

abbrev pub invariant-arms-loop-alloc : goal.invariant-arms-loop-alloc
invariant-arms-loop-alloc l =
    let e = expression l.left in
    let inner = statement (l.left - 1) in
    with_prefix (map arm_tree l.arms.items) (read (many (arm Elsif e inner)) l.tokens) ≡ read (arms e inner) l.fn.tokens

abbrev pub decreases-arms-loop-alloc : goal.decreases-arms-loop-alloc
decreases-arms-loop-alloc l = length l.tokens

abbrev pub invariant-cases-loop-alloc : goal.invariant-cases-loop-alloc
invariant-cases-loop-alloc l =
    let inner = statement l.below in
    with_prefix (map statement_tree l.statements.items) (flat (read (many (case inner)) l.tokens)) ≡ read (cases inner) l.fn.tokens

abbrev pub decreases-cases-loop-alloc : goal.decreases-cases-loop-alloc
decreases-cases-loop-alloc l = length l.tokens
