-- What the expressions and statements of a unit demand: the rules by which they are checked, each with the place of its fault.
use Rattle.std.specs.{Prelude.{◌≡◌, ℕ, Bool, true, false, not, ◌||◌, List, [], ◌∷◌, ◌++◌, Option, Some, is_some, ◌↔◌}, List.{Contains, flat_map}}
use Rattle.std.specs.Option.{option_map_or}
use Rattle.fb_tree.specs.{Text.declared.name.NameUse.{NameUse}, Text.declared.token.Span.{Span}}
use Rattle.fb_tree.specs.Expression.{ReferenceTree, alone_tree, Expression, literal_expression, reference_expression, unary_expression, row_expression, parentheses, Expressions, no_expressions, expression_then, Operands, no_operands, operand_then}
use Rattle.fb_tree.specs.Statement.{Statement, empty, assignment, exit, return, choice, selection, count, while_loop, repeat_loop, Statements, no_statements, statement_then, Arms, no_arms, arm_then, statements_of}
use Rattle.fb_tree.specs.Tree.{AlgorithmTree, ChartTree, ConditionTree, always, on_event, guarded, guard, TransitionTree, TypeTree, block_type}
use Rattle.fb_tree.specs.{declared.expression.BinaryUse.{BinaryUse}, declared.expression.UnaryUse.{UnaryUse}, declared.reference.Member.{Member}}
use Rattle.fb_iface.specs.{Library.View.{Sources, tree_at}, declared.classes.Class.{Class as ValueClass}, declared.code.Code.{Code}}
use Rattle.fb_iface.specs.{declared.code.Code.TheVariants.{Class, MemberUnknown, VariableUnknown}, declared.fault.Fault.{Fault}}
use Rattle.fb_expr.specs.{Charts.{expr_faults_of}, Classes.{change, combined, join, pair_class}, Expressions.{class_in}, Names.{Names, names_of_type}}
use Rattle.fb_expr.specs.{References.{referent_from, referent_of}, Rules.{allows}, Spans.{names_span, span_of}, declared.references.Referent.{Referent}}
use Rattle.fb_expr.specs.{declared.references.Referent.TheVariants.{Variable, Unjudged, Unknown, NoMember}, declared.rules.ClassPlace.{ClassPlace}}
use Rattle.fb_expr.specs.declared.rules.ClassPlace.TheVariants.{Condition, Count, Counter, Selector}

pub data Demand : Type 0 where
  -- a reference begins at a variable
  names_variable : ReferenceTree → Demand
  -- a further name of a reference, after these further names, is a field
  names_field : ReferenceTree → List Member → Member → Demand
  -- an operator suits its operand
  suits_operand : UnaryUse → Expression → Demand
  -- an operator suits the class of what is before it and the operand after it
  suits_operands : BinaryUse → ValueClass → Expression → Demand
  -- an expression suits its place
  suits_place : ClassPlace → Expression → Demand
  -- the variable and the value of an assignment join
  assigns : Expression → Span → Expression → Demand

abbrev pub is_known : Referent → Bool
is_known (Variable used subscripted) = true
is_known Unjudged = true
is_known Unknown = false
is_known (NoMember span) = true

abbrev pub is_field : Referent → Bool
is_field (Variable used subscripted) = true
is_field Unjudged = true
is_field Unknown = true
is_field (NoMember span) = false

-- what a reference would mean with only these further names
abbrev pub referent_through : Names → ReferenceTree → List Member → Referent
referent_through names r members = referent_from names r.name.name r.subscripts members

abbrev pub is_met : Names → Demand → Bool
is_met names (names_variable r) = is_known (referent_of names r)
-- after a name that is no field nothing more is required
is_met names (names_field r before m) = is_field (referent_through names r (before ++ m ∷ [])) || not (is_field (referent_through names r before))
is_met names (suits_operand used e) = is_some (change used.operator (class_in names e))
is_met names (suits_operands used left e) = is_some (combined used.operator left (class_in names e))
is_met names (suits_place place e) = allows place (class_in names e)
is_met names (assigns variable place value) = is_some (join (class_in names variable) (class_in names value))

abbrev pub code_of_demand : Demand → Code
code_of_demand (names_variable r) = VariableUnknown
code_of_demand (names_field r before m) = MemberUnknown
code_of_demand (suits_operand used e) = Class
code_of_demand (suits_operands used left e) = Class
code_of_demand (suits_place place e) = Class
code_of_demand (assigns variable place value) = Class

abbrev pub place_of : Demand → Span
place_of (names_variable r) = names_span r
place_of (names_field r before m) = m.name.span
place_of (suits_operand used e) = used.span
place_of (suits_operands used left e) = used.span
place_of (suits_place place e) = span_of e
place_of (assigns variable place value) = place

-- the fault of a demand that is not met
abbrev pub fault_of : Demand → Fault
fault_of demand = record { code = code_of_demand demand; span = place_of demand }

-- each of these further names is a field, after those before it
abbrev pub field_demands : ReferenceTree → List Member → List Member → List Demand
field_demands r before [] = []
field_demands r before (m ∷ ms) = names_field r before m ∷ field_demands r (before ++ m ∷ []) ms

abbrev pub reference_demands : ReferenceTree → List Demand
reference_demands r = names_variable r ∷ field_demands r [] r.members

abbrev mutual
  -- what an expression demands: its references, its operators, and its subscripts
  pub demands_in : Names → Expression → List Demand
  demands_in names (literal_expression l) = []
  demands_in names (reference_expression r subscripts) = reference_demands r ++ subscript_demands names subscripts
  demands_in names (unary_expression used e) = demands_in names e ++ suits_operand used e ∷ []
  demands_in names (row_expression e operands) = demands_in names e ++ row_demands names (class_in names e) operands
  demands_in names (parentheses e span) = demands_in names e

  pub row_demands : Names → ValueClass → Operands → List Demand
  row_demands names left no_operands = []
  row_demands names left (operand_then used e operands) =
      demands_in names e ++ suits_operands used left e ∷ row_demands names (pair_class used.operator left (class_in names e)) operands

  pub subscript_demands : Names → Expressions → List Demand
  subscript_demands names no_expressions = []
  subscript_demands names (expression_then e others) = demands_in names e ++ suits_place Count e ∷ subscript_demands names others

abbrev pub demands_at : ClassPlace → Names → Expression → List Demand
demands_at place names e = demands_in names e ++ suits_place place e ∷ []

-- the variable of a FOR is a variable, and a whole number
abbrev pub counter_demands : NameUse → List Demand
counter_demands name = names_variable (alone_tree name) ∷ suits_place Counter (reference_expression (alone_tree name) no_expressions) ∷ []

abbrev pub range_demands : Names → Expression → Expression → Option Expression → List Demand
range_demands names from to by = demands_at Count names from ++ demands_at Count names to ++ option_map_or (demands_at Count names) by []

abbrev pub assignment_demands : Names → Expression → Span → Expression → List Demand
assignment_demands names variable place value = demands_in names variable ++ demands_in names value ++ assigns variable place value ∷ []

abbrev mutual
  pub statement_demands : Names → Statement → List Demand
  statement_demands names empty = []
  statement_demands names (assignment r subscripts place value) = assignment_demands names (reference_expression r subscripts) place value
  statement_demands names exit = []
  statement_demands names return = []
  statement_demands names (choice arms otherwise) = arms_demands names arms ++ statements_demands names otherwise
  statement_demands names (selection selector cases otherwise) =
      demands_at Selector names selector ++ statements_demands names cases ++ statements_demands names otherwise
  statement_demands names (count name from to by body) =
      counter_demands name ++ range_demands names from to by ++ statements_demands names body
  statement_demands names (while_loop condition body) = demands_at Condition names condition ++ statements_demands names body
  statement_demands names (repeat_loop body condition) = statements_demands names body ++ demands_at Condition names condition

  pub statements_demands : Names → Statements → List Demand
  statements_demands names no_statements = []
  statements_demands names (statement_then s others) = statement_demands names s ++ statements_demands names others

  pub arms_demands : Names → Arms → List Demand
  arms_demands names no_arms = []
  arms_demands names (arm_then condition body others) =
      demands_at Condition names condition ++ statements_demands names body ++ arms_demands names others

abbrev pub guard_demands : Names → ConditionTree → List Demand
guard_demands names (always span) = []
guard_demands names (on_event event) = []
guard_demands names (guarded event test) = demands_at Condition names test
guard_demands names (guard test) = demands_at Condition names test

abbrev pub transition_demands : Names → TransitionTree → List Demand
transition_demands names t = guard_demands names t.condition

abbrev pub algorithm_demands : Names → AlgorithmTree → List Demand
algorithm_demands names a = statements_demands names (statements_of a.statements)

-- what the guards and the algorithms of a block type demand
abbrev pub chart_demands : Names → ChartTree → List Demand
chart_demands names c = flat_map (transition_demands names) c.transitions ++ flat_map (algorithm_demands names) c.algorithms

-- the fault is that of a demand that is not met
abbrev pub IsUnmet : Names → List Demand → Fault → Type 0
IsUnmet names demands f = (demand : Demand) × Contains demands demand × (is_met names demand ≡ false) × (f ≡ fault_of demand)

-- the faults of a block type are exactly those of its unmet demands
abbrev pub FaultsAreUnmet : Type 0
FaultsAreUnmet = (sources : Sources) (unit : List ℕ) (d : TypeTree) → tree_at sources unit ≡ Some (block_type d) → (f : Fault) → Contains (expr_faults_of sources unit) f ↔ IsUnmet (names_of_type sources unit d) (chart_demands (names_of_type sources unit d) d.chart) f
