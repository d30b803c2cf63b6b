-- How classes join, and what operators make of them.
use Rattle.std.specs.{Prelude.{Option, Some, None, unwrap_or}, Option.{option_and_then}}
use Rattle.fb_tree.specs.declared.expression.BinaryOperator.{BinaryOperator}
use Rattle.fb_tree.specs.declared.expression.BinaryOperator.TheVariants.{Or, Xor, And, Equal, NotEqual, Less, Greater, LessOrEqual, GreaterOrEqual, Add, Subtract, Multiply, Divide, Modulo, Power}
use Rattle.fb_tree.specs.{declared.expression.UnaryOperator.{UnaryOperator}, declared.expression.UnaryOperator.TheVariants.{Plus, Minus, Not}}
use Rattle.fb_iface.specs.{declared.classes.Class.{Class}, declared.classes.Class.TheVariants.{B, I, W, O, Free, Num, Any}}

-- the join of two classes, if they have one
abbrev pub join : Class → Class → Option Class
join Free right = Some Free
join left Free = Some Free
join Any right = Some right
join left Any = Some left
join B B = Some B
join I I = Some I
join W W = Some W
join O O = Some O
join Num Num = Some Num
join Num I = Some I
join I Num = Some I
join Num W = Some W
join W Num = Some W
join Num O = Some O
join O Num = Some O
join I O = Some O
join O I = Some O
join left right = None

-- What an operation makes of a class, if its rule holds; a class that is not checked meets every rule.

-- truth values, strings of bits, and numbers that may be such
abbrev pub logical : Class → Option Class
logical B = Some B
logical W = Some W
logical Num = Some Num
logical Any = Some Any
logical Free = Some Free
logical other = None

-- whole numbers and other values, and numbers
abbrev pub arithmetical : Class → Option Class
arithmetical I = Some I
arithmetical O = Some O
arithmetical Num = Some Num
arithmetical Any = Some Num
arithmetical Free = Some Free
arithmetical other = None

-- only whole numbers
abbrev pub whole : Class → Option Class
whole I = Some I
whole Num = Some Num
whole Any = Some Num
whole Free = Some Free
whole other = None

-- whatever is compared gives a truth value
abbrev pub compared : Class → Option Class
compared joined = Some B

-- the class of one operator before an operand of this class, if its rule holds
abbrev pub change : UnaryOperator → Class → Option Class
change Not operand = logical operand
change Plus operand = arithmetical operand
change Minus operand = arithmetical operand

-- the class of an operator between operands that join to this class, if its rule holds
abbrev pub operation : BinaryOperator → Class → Option Class
operation Or joined = logical joined
operation Xor joined = logical joined
operation And joined = logical joined
operation Equal joined = compared joined
operation NotEqual joined = compared joined
operation Less joined = compared joined
operation Greater joined = compared joined
operation LessOrEqual joined = compared joined
operation GreaterOrEqual joined = compared joined
operation Add joined = arithmetical joined
operation Subtract joined = arithmetical joined
operation Multiply joined = arithmetical joined
operation Divide joined = arithmetical joined
operation Modulo joined = whole joined
operation Power joined = arithmetical joined

-- the class of an operator between two operands, if they join and its rule holds
abbrev pub combined : BinaryOperator → Class → Class → Option Class
combined operator left right = option_and_then (operation operator) (join left right)

-- the class of an operation that breaks its rule: a comparison is still a truth value
abbrev pub class_of_broken : BinaryOperator → Class
class_of_broken Equal = B
class_of_broken NotEqual = B
class_of_broken Less = B
class_of_broken Greater = B
class_of_broken LessOrEqual = B
class_of_broken GreaterOrEqual = B
class_of_broken other = Free

-- the class of `operator operand`
abbrev pub unary_class : UnaryOperator → Class → Class
unary_class operator operand = unwrap_or (change operator operand) Free

-- the class of `left operator right`
abbrev pub pair_class : BinaryOperator → Class → Class → Class
pair_class operator left right = unwrap_or (combined operator left right) (class_of_broken operator)
