-- The faults of statements.
use Rattle.std.specs.{Prelude.{false, List, [], ◌++◌, Option, is_some}, Option.{option_map_or}}
use Rattle.fb_tree.specs.{Text.declared.name.NameUse.{NameUse}, Text.declared.token.Span.{Span}, Expression.{Expression, reference_expression}}
use Rattle.fb_tree.specs.Statement.{Statement, empty, assignment, exit, return, choice, selection, count, while_loop, repeat_loop, Statements, no_statements, statement_then, Arms, no_arms, arm_then}
use Rattle.fb_iface.specs.declared.fault.Fault.{Fault}
use Rattle.fb_expr.specs.{Classes.{join}, Expressions.{class_in, faults_in}, Names.{Names}, Spans.{span_of}}
use Rattle.fb_expr.specs.{References.{class_of_referent, reference_faults, variable_named}, Rules.{allows, class_faults}}
use Rattle.fb_expr.specs.{declared.rules.ClassPlace.{ClassPlace}, declared.rules.ClassPlace.TheVariants.{Condition, Count, Counter, Selector}}

-- an expression in a place that requires certain classes
abbrev pub faults_at_place : ClassPlace → Names → Expression → List Fault
faults_at_place place names e = faults_in names e ++ class_faults (allows place (class_in names e)) (span_of e)

-- the two sides of an assignment join
abbrev pub assignment_faults : Names → Expression → Span → Expression → List Fault
assignment_faults names variable place value =
    faults_in names variable ++ faults_in names value ++ class_faults (is_some (join (class_in names variable) (class_in names value))) place

-- the variable of a FOR is one of the unit, and a whole number
abbrev pub counter_faults : Names → NameUse → List Fault
counter_faults names name =
    reference_faults (variable_named names.scope name.name false) name.span
    ++ class_faults (allows Counter (class_of_referent (variable_named names.scope name.name false))) name.span

-- the first value of a FOR, its last one, and its step
abbrev pub range_faults : Names → Expression → Expression → Option Expression → List Fault
range_faults names from to by =
    faults_at_place Count names from ++ faults_at_place Count names to ++ option_map_or (faults_at_place Count names) by []

abbrev mutual
  pub statement_faults : Names → Statement → List Fault
  statement_faults names empty = []
  statement_faults names (assignment r subscripts place value) = assignment_faults names (reference_expression r subscripts) place value
  statement_faults names exit = []
  statement_faults names return = []
  statement_faults names (choice arms otherwise) = arms_faults names arms ++ statements_faults names otherwise
  statement_faults names (selection selector cases otherwise) =
      faults_at_place Selector names selector ++ statements_faults names cases ++ statements_faults names otherwise
  statement_faults names (count name from to by body) =
      counter_faults names name ++ range_faults names from to by ++ statements_faults names body
  statement_faults names (while_loop condition body) = faults_at_place Condition names condition ++ statements_faults names body
  statement_faults names (repeat_loop body condition) = statements_faults names body ++ faults_at_place Condition names condition

  pub statements_faults : Names → Statements → List Fault
  statements_faults names no_statements = []
  statements_faults names (statement_then s others) = statement_faults names s ++ statements_faults names others

  -- each condition, and what is done if it holds
  pub arms_faults : Names → Arms → List Fault
  arms_faults names no_arms = []
  arms_faults names (arm_then condition body others) =
      faults_at_place Condition names condition ++ statements_faults names body ++ arms_faults names others
