-- The rules of classes, as relations: which classes join, what operators make of classes, what places ask for, and the class of each expression.
use Rattle.std.specs.Prelude.{◌≡◌, ◌≢◌, Bool, true, false}
use Rattle.fb_laws.specs.Common.{ReferenceTree, Expression, literal_expression, reference_expression, unary_expression, row_expression, parentheses, Expressions, Operands, no_operands, operand_then, TypeTree, BinaryUse, UnaryUse, Span, TypeUse, class_of_literal, class_of_name, class_of_type, Sources, B, I, W, O, Free, Num, Any, ClassPlace, Condition, Count, Counter, Selector}
use Rattle.fb_laws.specs.Variables.{NamesType}
use Rattle.fb_tree.specs.{declared.constant.Literal.{Literal}, declared.expression.BinaryOperator.{BinaryOperator}}
use Rattle.fb_tree.specs.declared.expression.BinaryOperator.TheVariants.{Or, Xor, And, Equal, NotEqual, Less, Greater, LessOrEqual, GreaterOrEqual, Add, Subtract, Multiply, Divide, Modulo, Power}
use Rattle.fb_tree.specs.{declared.expression.UnaryOperator.{UnaryOperator}, declared.expression.UnaryOperator.TheVariants.{Plus, Minus, Not}}
use Rattle.fb_tree.specs.declared.interface.TypeForm.TheVariants as forms
use Rattle.fb_deploy.specs.Iface.declared.classes.Class.{Class}

-- Two classes join to a third: equal ones to themselves, Any with another to that, Num with I, W or O to that, I with O to O, and Free with
-- anything to Free.
pub data Joins : Class → Class → Class → Type 0 where
  equal : (c : Class) → Joins c c c
  any_left : (c : Class) → Joins Any c c
  any_right : (c : Class) → Joins c Any c
  number_left_whole : Joins Num I I
  number_left_bits : Joins Num W W
  number_left_other : Joins Num O O
  number_right_whole : Joins I Num I
  number_right_bits : Joins W Num W
  number_right_other : Joins O Num O
  whole_left : Joins I O O
  whole_right : Joins O I O
  free_left : (c : Class) → Joins Free c Free
  free_right : (c : Class) → Joins c Free Free

-- A type of the first class takes a constant of the second: B takes B and Any; I takes I, Num and Any; W takes W, Num and Any; O takes O, I, Num
-- and Any; if either is Free, the constant fits.
pub data Takes : Class → Class → Type 0 where
  truth : Takes B B
  truth_any : Takes B Any
  whole : Takes I I
  whole_number : Takes I Num
  whole_any : Takes I Any
  bits : Takes W W
  bits_number : Takes W Num
  bits_any : Takes W Any
  other : Takes O O
  other_whole : Takes O I
  other_number : Takes O Num
  other_any : Takes O Any
  free_type : (constant : Class) → Takes Free constant
  free_constant : (kind : Class) → Takes kind Free

-- the classes that NOT, OR, XOR and AND work on
pub data IsLogical : Class → Type 0 where
  truth : IsLogical B
  bits : IsLogical W
  number : IsLogical Num
  any : IsLogical Any
  free : IsLogical Free

-- the classes that are calculated with, and what comes of each
pub data Calculates : Class → Class → Type 0 where
  whole : Calculates I I
  other : Calculates O O
  number : Calculates Num Num
  any : Calculates Any Num
  free : Calculates Free Free

-- the classes that MOD works on, and what comes of each
pub data Divides : Class → Class → Type 0 where
  whole : Divides I I
  number : Divides Num Num
  any : Divides Any Num
  free : Divides Free Free

-- an operator before an operand of the first class gives the second
pub data Changes : UnaryOperator → Class → Class → Type 0 where
  not : {c : Class} → IsLogical c → Changes Not c c
  plus : {c g : Class} → Calculates c g → Changes Plus c g
  minus : {c g : Class} → Calculates c g → Changes Minus c g

pub data JoinsTruths : BinaryOperator → Type 0 where
  or : JoinsTruths Or
  xor : JoinsTruths Xor
  and : JoinsTruths And

pub data Compares : BinaryOperator → Type 0 where
  equal : Compares Equal
  not_equal : Compares NotEqual
  less : Compares Less
  greater : Compares Greater
  less_or_equal : Compares LessOrEqual
  greater_or_equal : Compares GreaterOrEqual

pub data IsArithmetic : BinaryOperator → Type 0 where
  add : IsArithmetic Add
  subtract : IsArithmetic Subtract
  multiply : IsArithmetic Multiply
  divide : IsArithmetic Divide
  power : IsArithmetic Power

-- an operator between operands that join to the first class gives the second
pub data Makes : BinaryOperator → Class → Class → Type 0 where
  logic : {operator : BinaryOperator} {c : Class} → JoinsTruths operator → IsLogical c → Makes operator c c
  comparison : {operator : BinaryOperator} {c : Class} → Compares operator → Makes operator c B
  arithmetic : {operator : BinaryOperator} {c g : Class} → IsArithmetic operator → Calculates c g
      → Makes operator c g
  modulo : {c g : Class} → Divides c g → Makes Modulo c g

-- an operator between operands of these classes meets its rule, and gives the third
pub data Combines (operator : BinaryOperator) (left right : Class) : Class → Type 0 where
  joined : {g : Class} (c : Class) → Joins left right c → Makes operator c g → Combines operator left right g

-- the class of an operation that breaks its rule: a truth value for a comparison, otherwise Free, which is not checked
pub data Spoils : BinaryOperator → Class → Type 0 where
  comparison : {operator : BinaryOperator} → Compares operator → Spoils operator B
  logic : {operator : BinaryOperator} → JoinsTruths operator → Spoils operator Free
  arithmetic : {operator : BinaryOperator} → IsArithmetic operator → Spoils operator Free
  modulo : Spoils Modulo Free

-- the class of an operation, whether it meets its rule or not
pub data Results (operator : BinaryOperator) (left right : Class) : Class → Type 0 where
  met : {g : Class} → Combines operator left right g → Results operator left right g
  broken : {g : Class} → ((c : Class) → ¬ Combines operator left right c) → Spoils operator g
      → Results operator left right g

-- what places ask for: a condition is a truth value, a count and a subscript a whole number, the variable of a FOR one that is declared so, and
-- CASE selects by anything but a truth value
pub data Fits : ClassPlace → Class → Type 0 where
  truth : Fits Condition B
  any_truth : Fits Condition Any
  whole : Fits Count I
  number : Fits Count Num
  any_number : Fits Count Any
  counter : Fits Counter I
  selector : (c : Class) → c ≢ B → Fits Selector c
  free : (place : ClassPlace) → Fits place Free

-- the class of an expression, and that of a row of operators after what has the first class
mutual
  pub data HasClass (sources : Sources) (d : TypeTree) : Expression → Class → Type 0 where
    of_literal : {l : Literal} → HasClass sources d (literal_expression l) (class_of_literal l.form)
    of_variable : {r : ReferenceTree} {subscripts : Expressions} (used : TypeUse)
        → NamesType sources d r used false
        → HasClass sources d (reference_expression r subscripts) (class_of_type used)
    of_element : {r : ReferenceTree} {subscripts : Expressions} (used : TypeUse)
        → NamesType sources d r used true → used.form ≡ forms.Array
        → HasClass sources d (reference_expression r subscripts) (class_of_name used.name.name)
    of_no_array : {r : ReferenceTree} {subscripts : Expressions} (used : TypeUse)
        → NamesType sources d r used true → used.form ≢ forms.Array
        → HasClass sources d (reference_expression r subscripts) O
    of_no_variable : {r : ReferenceTree} {subscripts : Expressions}
        → ((used : TypeUse) (subscripted : Bool) → ¬ NamesType sources d r used subscripted)
        → HasClass sources d (reference_expression r subscripts) Free
    of_operator : {used : UnaryUse} {x : Expression} {g : Class} (c : Class)
        → HasClass sources d x c → Changes used.operator c g
        → HasClass sources d (unary_expression used x) g
    of_broken : {used : UnaryUse} {x : Expression} (c : Class) → HasClass sources d x c
        → ((g : Class) → ¬ Changes used.operator c g)
        → HasClass sources d (unary_expression used x) Free
    of_row : {x : Expression} {operands : Operands} {g : Class} (c : Class) → HasClass sources d x c
        → RowHasClass sources d c operands g → HasClass sources d (row_expression x operands) g
    of_parentheses : {x : Expression} {span : Span} {c : Class} → HasClass sources d x c
        → HasClass sources d (parentheses x span) c

  pub data RowHasClass (sources : Sources) (d : TypeTree) : Class → Operands → Class → Type 0 where
    at_end : {c : Class} → RowHasClass sources d c no_operands c
    behind : {left h : Class} {used : BinaryUse} {x : Expression} {others : Operands} (c g : Class)
        → HasClass sources d x c → Results used.operator left c g → RowHasClass sources d g others h
        → RowHasClass sources d left (operand_then used x others) h

-- an operator of a row, the class of what is before it, and the operand after it
pub data IsPairIn (sources : Sources) (d : TypeTree) (used : BinaryUse) (before : Class) (x : Expression) : Class → Operands → Type 0 where
  first_pair : {others : Operands} → IsPairIn sources d used before x before (operand_then used x others)
  later_pair : {first : BinaryUse} {left : Class} {y : Expression} {others : Operands} (c g : Class)
      → HasClass sources d y c → Results first.operator left c g
      → IsPairIn sources d used before x g others
      → IsPairIn sources d used before x left (operand_then first y others)
