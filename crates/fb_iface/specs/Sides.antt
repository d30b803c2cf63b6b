-- Which variables are data of a side, and which data go with which events.
use Rattle.std.specs.Prelude.{Bool, true, false}
use Rattle.fb_tree.specs.{declared.interface.Side.{Side}, declared.interface.Section.{Section}}
use Rattle.fb_tree.specs.declared.interface.Side.TheVariants as sides
use Rattle.fb_tree.specs.declared.interface.Section.TheVariants as sections

-- whether the variables of a section are data of a side: data inputs, or data outputs; internal variables and fields are of none
abbrev pub is_data_on : Side → Section → Bool
is_data_on sides.Input sections.Input = true
is_data_on sides.Output sections.Output = true
is_data_on side section = false

-- an event input goes with data inputs, an event output with data outputs
abbrev pub goes_with : Side → Section → Bool
goes_with side section = is_data_on side section
