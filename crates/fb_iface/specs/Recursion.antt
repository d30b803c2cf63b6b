-- Structures that carry themselves.
use Rattle.std.specs.Prelude.{ℕ, Bool, List, [], ◌∷◌, if◌then◌else◌}
use Rattle.fb_tree.specs.Tree.{DeclTree, block_type, adapter_type, subapplication_type, system_configuration, structure_type}
use Rattle.fb_library.specs.{Near.{carried_of}, Seen.{has_name}, View.{Sources}}
use Rattle.fb_iface.specs.{declared.code.Code.TheVariants.{StructRecursive}, declared.fault.Fault.{Fault}, Fault.{fault_at}}

abbrev pub carries_itself : Sources → List ℕ → Bool
carries_itself sources unit = has_name (carried_of sources (unit ∷ [])) unit

-- a structure does not carry itself, by the unit's name, whatever the text declares
abbrev pub recursion_faults : Sources → List ℕ → DeclTree → List Fault
recursion_faults sources unit (block_type d) = []
recursion_faults sources unit (adapter_type d) = []
recursion_faults sources unit (subapplication_type d) = []
recursion_faults sources unit (system_configuration s) = []
recursion_faults sources unit (structure_type s) = if carries_itself sources unit then fault_at StructRecursive s.name ∷ [] else []
