-- The classes that each place of an algorithm requires; a class that is not checked meets every rule.
use Rattle.std.specs.Prelude.{Bool, true, false, List, [], ◌∷◌, if◌then◌else◌}
use Rattle.fb_tree.specs.Text.declared.token.Span.{Span}
use Rattle.fb_iface.specs.{declared.classes.Class.{Class as ValueClass}, declared.classes.Class.TheVariants.{B, I, Free, Num, Any}}
use Rattle.fb_iface.specs.{declared.code.Code.TheVariants.{Class}, declared.fault.Fault.{Fault}}
use Rattle.fb_expr.specs.{declared.rules.ClassPlace.{ClassPlace}, declared.rules.ClassPlace.TheVariants.{Condition, Count, Counter, Selector}}

-- a condition is a truth value, a count and a subscript a whole number, and a CASE selects by anything but a truth value
abbrev pub allows : ClassPlace → ValueClass → Bool
allows place Free = true
allows Condition B = true
allows Condition Any = true
allows Count I = true
allows Count Num = true
allows Count Any = true
allows Counter I = true
allows Selector B = false
allows Selector class = true
allows place class = false

-- a fault if a rule of classes is not met
abbrev pub class_faults : Bool → Span → List Fault
class_faults is_met span = if is_met then [] else record { code = Class; span = span } ∷ []
