-- Constants that don't fit their type.
use Rattle.std.specs.{Prelude.{Bool, List, [], ◌∷◌, not, map, filter, if◌then◌else◌}, List.{flat_map}, Option.{option_map_or}}
use Rattle.fb_tree.specs.{Text.declared.token.Span.{Span}, Tree.{ConstantTree, one_value, value_list, value_span, VariablesTree}}
use Rattle.fb_tree.specs.{declared.constant.Simple.{Simple}, declared.interface.TypeForm.{TypeForm}, declared.interface.TypeUse.{TypeUse}}
use Rattle.fb_tree.specs.declared.interface.TypeForm.TheVariants as forms
use Rattle.fb_iface.specs.{declared.classes.Class.{Class}, declared.code.Code.TheVariants.{Literal}, declared.fault.Fault.{Fault}}
use Rattle.fb_iface.specs.Class.{class_of_name, class_of_simple, class_of_type, is_free, takes}

abbrev pub literal_fault : Span → Fault
literal_fault span = record { code = Literal; span = span }

-- the constants that a type of this class doesn't take
abbrev pub misfits : Class → List Simple → List Fault
misfits class values = map (λ v. literal_fault (value_span v)) (filter (λ v. not (takes class (class_of_simple v))) values)

-- an array takes no single constant, except one that is not checked
abbrev pub fits_alone : TypeForm → Class → Class → Bool
fits_alone forms.Plain class constant = takes class constant
fits_alone forms.Sized class constant = takes class constant
fits_alone forms.Array class constant = is_free constant

-- a list fits an array, element by element, and a type that is not checked
abbrev pub list_faults : TypeForm → TypeUse → List Simple → Span → List Fault
list_faults forms.Array used values span = misfits (class_of_name used.name.name) values
list_faults forms.Plain used values span = if is_free (class_of_type used) then [] else literal_fault span ∷ []
list_faults forms.Sized used values span = if is_free (class_of_type used) then [] else literal_fault span ∷ []

-- a constant that doesn't fit the type, or the elements of a list that don't
abbrev pub constant_faults : TypeUse → ConstantTree → List Fault
constant_faults used (one_value value) =
    if fits_alone used.form (class_of_type used) (class_of_simple value) then [] else literal_fault (value_span value) ∷ []
constant_faults used (value_list values span) = list_faults used.form used values span

-- the initial value of variables
abbrev pub initial_faults : VariablesTree → List Fault
initial_faults v = option_map_or (constant_faults v.type_use) v.initial []

abbrev pub literal_faults : List VariablesTree → List Fault
literal_faults variables = flat_map initial_faults variables
