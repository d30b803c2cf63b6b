-- A data connection among those before it.
use Rattle.std.specs.{Prelude.{Bool, true, false, List, [], ◌∷◌, Option, Some, None, if◌then◌else◌}, List.{list_any}}
use Rattle.fb_tree.specs.{Text.declared.name.NameUse.{NameUse}, declared.network.Connection.{Connection}, declared.network.End.{End}}
use Rattle.fb_tree.specs.declared.network.Sort.{Sort}
use Rattle.fb_tree.specs.declared.network.Sort.TheVariants as sorts
use Rattle.fb_iface.specs.{Names.{is_same}, declared.code.Code.TheVariants.{SecondSource}, declared.fault.Fault.{Fault}}
use Rattle.fb_netcheck.specs.{Paths.{Path, fault_at_path, same_path}, Repeats.{end_path}}

-- whether two ports are the same, or both are absent
abbrev pub same_port : Option NameUse → Option NameUse → Bool
same_port None None = true
same_port None (Some other) = false
same_port (Some port) None = false
same_port (Some port) (Some other) = is_same port.name other.name

-- whether a connection of this sort brings data to its destination, which has these names
abbrev pub brings_of_sort : Sort → Path → End → Bool
brings_of_sort sorts.Data names destination = same_path (end_path destination).names names
brings_of_sort sorts.Event names destination = false
brings_of_sort sorts.Adapter names destination = false

-- whether a connection brings data to the end with these names
abbrev pub brings : Path → Connection → Bool
brings names c = brings_of_sort c.sort names c.destination

-- a fault at a data connection's destination, if an earlier connection brings data there
abbrev pub faults_of_sort : Sort → List Connection → End → List Fault
faults_of_sort sorts.Data before destination = if list_any (brings (end_path destination).names) before then fault_at_path SecondSource (end_path destination) ∷ [] else []
faults_of_sort sorts.Event before destination = []
faults_of_sort sorts.Adapter before destination = []

abbrev pub source_faults : List Connection → Connection → List Fault
source_faults before c = faults_of_sort c.sort before c.destination
