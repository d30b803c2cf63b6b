-- Where expressions and statements occur, at any depth.
use Rattle.std.specs.Prelude.{Option, Some, Contains}
use Rattle.fb_laws.specs.Common.{NameUse, Span, ReferenceTree, Expression, reference_expression, unary_expression, row_expression, parentheses, Expressions, expression_then, Operands, operand_then, Statement, assignment, choice, selection, count, while_loop, repeat_loop, Statements, statement_then, Arms, arm_then, statements_of, AlgorithmTree, ConditionTree, guarded, guard, TransitionTree, TypeTree, BinaryUse, UnaryUse, End, ClassPlace, Condition, Count, Selector}

-- one of the expressions of a list
pub data IsOneOf (e : Expression) : Expressions → Type 0 where
  first_one : {others : Expressions} → IsOneOf e (expression_then e others)
  later_one : {x : Expression} {others : Expressions} → IsOneOf e others
      → IsOneOf e (expression_then x others)

-- one of the operands after the first of a row
pub data IsOperandOf (e : Expression) : Operands → Type 0 where
  first_operand : {used : BinaryUse} {others : Operands} → IsOperandOf e (operand_then used e others)
  later_operand : {used : BinaryUse} {x : Expression} {others : Operands} → IsOperandOf e others
      → IsOperandOf e (operand_then used x others)

-- An expression occurs in another: it is this one, or occurs in a part of it.
pub data OccursIn (e : Expression) : Expression → Type 0 where
  itself : OccursIn e e
  in_subscript : {r : ReferenceTree} {subscripts : Expressions} (x : Expression)
      → IsOneOf x subscripts → OccursIn e x → OccursIn e (reference_expression r subscripts)
  behind_operator : {used : UnaryUse} {x : Expression} → OccursIn e x → OccursIn e (unary_expression used x)
  in_first : {x : Expression} {operands : Operands} → OccursIn e x → OccursIn e (row_expression x operands)
  in_operand : {first : Expression} {operands : Operands} (x : Expression) → IsOperandOf x operands
      → OccursIn e x → OccursIn e (row_expression first operands)
  in_parentheses : {x : Expression} {span : Span} → OccursIn e x → OccursIn e (parentheses x span)

-- an arm of an IF: its condition, and what is done if it holds
pub data IsArmOf (condition : Expression) (body : Statements) : Arms → Type 0 where
  first_arm : {others : Arms} → IsArmOf condition body (arm_then condition body others)
  later_arm : {x : Expression} {ss : Statements} {others : Arms} → IsArmOf condition body others
      → IsArmOf condition body (arm_then x ss others)

-- A statement has an expression in this place: the condition of an arm or of a loop, what CASE selects by, and from, to and step of a FOR.
pub data Asks : Statement → ClassPlace → Expression → Type 0 where
  arm : {arms : Arms} {otherwise : Statements} {condition : Expression} {body : Statements}
      → IsArmOf condition body arms → Asks (choice arms otherwise) Condition condition
  selector : {e : Expression} {cases otherwise : Statements} → Asks (selection e cases otherwise) Selector e
  from : {name : NameUse} {a b : Expression} {step : Option Expression} {body : Statements}
      → Asks (count name a b step body) Count a
  to : {name : NameUse} {a b : Expression} {step : Option Expression} {body : Statements}
      → Asks (count name a b step body) Count b
  by : {name : NameUse} {a b step : Expression} {body : Statements}
      → Asks (count name a b (Some step) body) Count step
  while_condition : {condition : Expression} {body : Statements}
      → Asks (while_loop condition body) Condition condition
  until_condition : {condition : Expression} {body : Statements}
      → Asks (repeat_loop body condition) Condition condition

-- the expressions that a statement has itself: those in such places, the destination of an assignment, with its subscripts, and its value
pub data HasExpression : Statement → Expression → Type 0 where
  in_place : {s : Statement} {e : Expression} (place : ClassPlace) → Asks s place e → HasExpression s e
  destination : {r : ReferenceTree} {subscripts : Expressions} {place : Span} {value : Expression}
      → HasExpression (assignment r subscripts place value) (reference_expression r subscripts)
  value : {r : ReferenceTree} {subscripts : Expressions} {place : Span} {e : Expression}
      → HasExpression (assignment r subscripts place e) e

-- A statement occurs in another, or in a list of statements.
mutual
  pub data IsWithin (s : Statement) : Statement → Type 0 where
    this : IsWithin s s
    in_arm : {arms : Arms} {otherwise : Statements} (condition : Expression) (body : Statements)
        → IsArmOf condition body arms → IsAmong s body → IsWithin s (choice arms otherwise)
    behind_else : {arms : Arms} {otherwise : Statements} → IsAmong s otherwise
        → IsWithin s (choice arms otherwise)
    in_case : {e : Expression} {cases otherwise : Statements} → IsAmong s cases
        → IsWithin s (selection e cases otherwise)
    behind_cases : {e : Expression} {cases otherwise : Statements} → IsAmong s otherwise
        → IsWithin s (selection e cases otherwise)
    in_for : {name : NameUse} {a b : Expression} {step : Option Expression} {body : Statements}
        → IsAmong s body → IsWithin s (count name a b step body)
    in_while : {condition : Expression} {body : Statements} → IsAmong s body
        → IsWithin s (while_loop condition body)
    in_repeat : {condition : Expression} {body : Statements} → IsAmong s body
        → IsWithin s (repeat_loop body condition)

  pub data IsAmong (s : Statement) : Statements → Type 0 where
    in_first_statement : {x : Statement} {others : Statements} → IsWithin s x
        → IsAmong s (statement_then x others)
    in_later_statement : {x : Statement} {others : Statements} → IsAmong s others
        → IsAmong s (statement_then x others)

-- the guard of a transition
pub data IsGuardOf (e : Expression) : ConditionTree → Type 0 where
  with_event : {event : End} → IsGuardOf e (guarded event e)
  alone : IsGuardOf e (guard e)

-- a statement of an algorithm of the type
pub record IsRunIn (d : TypeTree) (s : Statement) : Type 0 where
  pub algorithm : AlgorithmTree
  pub declared : Contains d.chart.algorithms algorithm
  pub among : IsAmong s (statements_of algorithm.statements)

-- a guard of a transition of the type
pub record IsTestedIn (d : TypeTree) (e : Expression) : Type 0 where
  pub transition : TransitionTree
  pub written : Contains d.chart.transitions transition
  pub is_guard : IsGuardOf e transition.condition

-- an expression occurs in a guard or in a statement of the type
pub data IsWrittenIn (d : TypeTree) (e : Expression) : Type 0 where
  in_guard : (test : Expression) → IsTestedIn d test → OccursIn e test → IsWrittenIn d e
  in_statement : (s : Statement) (x : Expression) → IsRunIn d s → HasExpression s x → OccursIn e x
      → IsWrittenIn d e
