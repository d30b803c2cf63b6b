-- The class of each expression, and the faults in it.
use Rattle.std.specs.Prelude.{List, [], ◌++◌, is_some}
use Rattle.fb_tree.specs.Expression.{Expression, literal_expression, reference_expression, unary_expression, row_expression, parentheses, Expressions, no_expressions, expression_then, Operands, no_operands, operand_then}
use Rattle.fb_iface.specs.{Class.{class_of_literal}, declared.classes.Class.{Class}, declared.fault.Fault.{Fault}}
use Rattle.fb_expr.specs.{Classes.{change, combined, pair_class, unary_class}, Names.{Names}, Spans.{names_span, span_of}}
use Rattle.fb_expr.specs.{References.{class_of_referent, reference_faults, referent_of}, Rules.{allows, class_faults}}
use Rattle.fb_expr.specs.declared.rules.ClassPlace.TheVariants.{Count}

abbrev mutual
  -- the class of an expression; parentheses change nothing
  pub class_in : Names → Expression → Class
  class_in names (literal_expression l) = class_of_literal l.form
  class_in names (reference_expression r subscripts) = class_of_referent (referent_of names r)
  class_in names (unary_expression used e) = unary_class used.operator (class_in names e)
  class_in names (row_expression e operands) = row_class names (class_in names e) operands
  class_in names (parentheses e span) = class_in names e

  -- the class of a row of operators, from the left
  pub row_class : Names → Class → Operands → Class
  row_class names left no_operands = left
  row_class names left (operand_then used e operands) = row_class names (pair_class used.operator left (class_in names e)) operands

abbrev mutual
  -- the faults of an expression: names that are no variables or fields, operations that break their rule, and subscripts that are no whole numbers
  pub faults_in : Names → Expression → List Fault
  faults_in names (literal_expression l) = []
  faults_in names (reference_expression r subscripts) = reference_faults (referent_of names r) (names_span r) ++ subscript_faults names subscripts
  faults_in names (unary_expression used e) = faults_in names e ++ class_faults (is_some (change used.operator (class_in names e))) used.span
  faults_in names (row_expression e operands) = faults_in names e ++ row_faults names (class_in names e) operands
  faults_in names (parentheses e span) = faults_in names e

  -- the faults after the first operand of a row, by the class of what is before
  pub row_faults : Names → Class → Operands → List Fault
  row_faults names left no_operands = []
  row_faults names left (operand_then used e operands) =
      faults_in names e
      ++ class_faults (is_some (combined used.operator left (class_in names e))) used.span
      ++ row_faults names (pair_class used.operator left (class_in names e)) operands

  pub subscript_faults : Names → Expressions → List Fault
  subscript_faults names no_expressions = []
  subscript_faults names (expression_then e others) =
      faults_in names e ++ class_faults (allows Count (class_in names e)) (span_of e) ++ subscript_faults names others
