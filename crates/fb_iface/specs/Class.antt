-- Classes of types and constants.
use Rattle.std.specs.Prelude.{ℕ, Bool, true, false, List}
use Rattle.fb_tree.specs.{Text.Elementary.{type_class_of}, Text.declared.elementary.TypeClass.{TypeClass}, declared.constant.LiteralForm.{LiteralForm}}
use Rattle.fb_tree.specs.{declared.constant.Simple.{Simple}, declared.interface.TypeForm.{TypeForm}, declared.interface.TypeUse.{TypeUse}}
use Rattle.fb_tree.specs.Text.declared.elementary.TypeClass.TheVariants as types
use Rattle.fb_tree.specs.declared.constant.LiteralForm.TheVariants as literals
use Rattle.fb_tree.specs.declared.constant.Simple.TheVariants as constants
use Rattle.fb_tree.specs.declared.interface.TypeForm.TheVariants as forms
use Rattle.fb_iface.specs.{declared.classes.Class.{Class}, declared.classes.Class.TheVariants.{B, I, W, O, Free, Num, Any}}

abbrev pub named_class : TypeClass → Class
named_class types.Truth = B
named_class types.Integer = I
named_class types.Bits = W
named_class types.Free = Free
named_class types.Other = O

-- the class of the type with this name
abbrev pub class_of_name : List ℕ → Class
class_of_name name = named_class (type_class_of name)

abbrev pub class_of_form : TypeForm → List ℕ → Class
class_of_form forms.Plain name = class_of_name name
class_of_form forms.Sized name = O
class_of_form forms.Array name = O

-- the class of a type; types with a length and arrays are among the others
abbrev pub class_of_type : TypeUse → Class
class_of_type used = class_of_form used.form used.name.name

-- the class of a literal
abbrev pub class_of_literal : LiteralForm → Class
class_of_literal literals.Bit = Any
class_of_literal literals.Whole = Num
class_of_literal literals.Real = O
class_of_literal (literals.Typed class) = named_class class
class_of_literal literals.Text = O
class_of_literal literals.Truth = B

-- the class of a constant; a name is not checked
abbrev pub class_of_simple : Simple → Class
class_of_simple (constants.Literal literal) = class_of_literal literal.form
class_of_simple (constants.Name name) = Free

-- whether it is the class that is not checked
abbrev pub is_free : Class → Bool
is_free Free = true
is_free class = false

-- whether a type of the first class takes a constant of the second
abbrev pub takes : Class → Class → Bool
takes Free constant = true
takes kind Free = true
takes B B = true
takes B Any = true
takes I I = true
takes I Num = true
takes I Any = true
takes W W = true
takes W Num = true
takes W Any = true
takes O O = true
takes O I = true
takes O Num = true
takes O Any = true
takes kind constant = false
