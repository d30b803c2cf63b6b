-- What the names of a unit mean.
use Rattle.std.specs.{Prelude.{ℕ, Bool, true, false, List, [], map, filter, Option, option_map}, List.{flat_map}}
use Rattle.fb_tree.specs.Text.declared.name.NameUse.{NameUse}
use Rattle.fb_tree.specs.Tree.{DeclTree, InterfaceTree, NetworkTree, TypeTree, VariablesTree, block_type, adapter_type, subapplication_type, system_configuration, structure_type}
use Rattle.fb_tree.specs.{declared.interface.Section.{Section}, declared.interface.Side.{Side}, declared.interface.TypeUse.{TypeUse}, declared.network.Role.{Role}}
use Rattle.fb_tree.specs.declared.interface.Side.TheVariants as sides
use Rattle.fb_tree.specs.declared.network.Role.TheVariants as roles
use Rattle.fb_library.specs.View.{tree_of}
use Rattle.fb_iface.specs.{Names.{first_ones}, Sides.{is_data_on}}

-- an event of an interface, with its type if one is written
pub record DeclaredEvent : Type 0 where
  pub side : Side
  pub type_name : Option NameUse

-- a variable of an interface, or a field of a structure
pub record DeclaredVariable : Type 0 where
  pub section : Section
  pub type_use : TypeUse

-- an instance, a plug or a socket
pub record DeclaredInstance : Type 0 where
  pub role : Role
  pub type_name : NameUse

-- the events of an interface, in the order of the text
abbrev pub events_in : InterfaceTree → List (List ℕ × DeclaredEvent)
events_in i = map (λ e. (e.name.name, record { side = e.side; type_name = e.type_name })) i.events

-- the variables that are declared together
abbrev pub variables_together : VariablesTree → List (List ℕ × DeclaredVariable)
variables_together v = map (λ n. (n.name, record { section = v.section; type_use = v.type_use })) v.names

-- the variables of an interface, internal ones among them
abbrev pub variables_in : InterfaceTree → List (List ℕ × DeclaredVariable)
variables_in i = flat_map variables_together i.variables

-- the instances of a network, plugs and sockets among them
abbrev pub instances_in : NetworkTree → List (List ℕ × DeclaredInstance)
instances_in n = map (λ i. (i.name.name, record { role = i.role; type_name = i.type_name })) n.instances

-- what names mean, by their name spaces, in the order of the text
pub record Meanings : Type 0 where
  pub events : List (List ℕ × DeclaredEvent)
  pub variables : List (List ℕ × DeclaredVariable)
  pub instances : List (List ℕ × DeclaredInstance)

abbrev pub meanings_in_type : TypeTree → Meanings
meanings_in_type d = record {
  events = first_ones (events_in d.interface);
  variables = first_ones (variables_in d.interface);
  instances = first_ones (instances_in d.network);
}

-- a network of an application has only instances
abbrev pub meanings_in_network : NetworkTree → Meanings
meanings_in_network n = record { events = []; variables = []; instances = first_ones (instances_in n) }

-- a system has no ports, and neither has a structure: its fields are of no side
abbrev pub meanings_in : DeclTree → Meanings
meanings_in (block_type d) = meanings_in_type d
meanings_in (adapter_type d) = meanings_in_type d
meanings_in (subapplication_type d) = meanings_in_type d
meanings_in (system_configuration s) = record { events = []; variables = []; instances = [] }
meanings_in (structure_type s) = record { events = []; variables = []; instances = [] }

-- what the names of a text mean; nothing if the text is broken
abbrev pub meanings_of : List ℕ → Option Meanings
meanings_of text = option_map meanings_in (tree_of text)

abbrev pub same_side : Side → Side → Bool
same_side sides.Input sides.Input = true
same_side sides.Output sides.Output = true
same_side a b = false

abbrev pub same_role : Role → Role → Bool
same_role roles.Plug roles.Plug = true
same_role roles.Socket roles.Socket = true
same_role roles.Block roles.Block = true
same_role roles.Subapplication roles.Subapplication = true
same_role a b = false

-- the events of a side, each with its type if one is written
abbrev pub events_on : Side → Meanings → List (List ℕ × Option NameUse)
events_on side m = map (λ e. (e.0, e.1.type_name)) (filter (λ e. same_side e.1.side side) m.events)

-- the data of a side, with their types
abbrev pub data_on : Side → Meanings → List (List ℕ × TypeUse)
data_on side m = map (λ v. (v.0, v.1.type_use)) (filter (λ v. is_data_on side v.1.section) m.variables)

-- the instances in a role, as plugs, with their types
abbrev pub instances_as : Role → Meanings → List (List ℕ × NameUse)
instances_as role m = map (λ i. (i.0, i.1.type_name)) (filter (λ i. same_role i.1.role role) m.instances)
