-- Tables of instances by their names.
use Rattle.std.specs.{Prelude.{ℕ, ◌≡◌, List, Option, Some, String, option_map}, HashMap.{HashMap, get_by_text}, Borrow.{Bor}, declared.alloc.Global.{Global}}
use Rattle.std.specs.{declared.hash.FoldHasher.{FoldHasher}, declared.hash.BuildHasherDefault.{BuildHasherDefault}}
use Rattle.fb_tree.specs.{Tree.{ApplicationTree, InstanceTree, instance_tree}, declared.network.Instance.{Instance}}
use Rattle.fb_library.specs.View.{Sources, tree_at}
use Rattle.fb_placing.specs.{FirstEntry.{first_at}, Resolved.{inner_instances, instance_called}}

abbrev pub Instances : Type 0
Instances = HashMap (String Global) (Bor Instance) (BuildHasherDefault FoldHasher)

-- the instance that a table has under a name
abbrev pub instance_at : Instances → List ℕ → Option InstanceTree
instance_at table name = option_map (λ i. instance_tree i.now) (get_by_text table name)

-- the instances of the application of that name by their names, of the first application
abbrev pub instances_called : List ApplicationTree → List ℕ → Option (List ℕ → Option InstanceTree)
instances_called applications name =
    first_at (λ a. a.name.name) (λ a. instance_called a.network.instances) applications name

-- under the name of each application there is a table of its instances
abbrev pub AreApplications : List ApplicationTree → (List ℕ → Option Instances) → Type 0
AreApplications applications table =
    (name : List ℕ) → option_map instance_at (table name) ≡ instances_called applications name

-- each table under the name of a unit is one of that unit's instances
abbrev pub AreUnits : Sources → (List ℕ → Option Instances) → Type 0
AreUnits sources units =
    (unit : List ℕ) (table : Instances) → units unit ≡ Some table
    → instance_at table ≡ instance_called (inner_instances (tree_at sources unit))
