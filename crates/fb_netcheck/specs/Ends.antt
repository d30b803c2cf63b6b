-- What the ends of connections name (IEC 61499-1, 5.3: composite types; 5.4: subapplication types; 5.5: adapters).
use Rattle.std.specs.{Prelude.{ℕ, Bool, false, List, Option, Some, None, option_map}, Option.{option_and_then}}
use Rattle.fb_tree.specs.{Text.declared.token.Span.{Span}, Text.declared.name.NameUse.{NameUse}, declared.interface.Section.{Section}}
use Rattle.fb_tree.specs.{declared.interface.Side.{Side}, declared.interface.Side.TheVariants.{Input, Output}, declared.interface.TypeUse.{TypeUse}}
use Rattle.fb_tree.specs.{declared.kinds.UnitKind.{UnitKind}, declared.network.End.{End}, declared.network.Role.{Role}, declared.network.Sort.{Sort}}
use Rattle.fb_tree.specs.declared.interface.Section.TheVariants as sections
use Rattle.fb_tree.specs.declared.kinds.UnitKind.TheVariants as kinds
use Rattle.fb_tree.specs.declared.network.Role.TheVariants as roles
use Rattle.fb_tree.specs.declared.network.Sort.TheVariants as sorts
use Rattle.fb_iface.specs.Ports.{DeclaredEvent, DeclaredInstance}
use Rattle.fb_iface.specs.{Ports.{DeclaredVariable, Meanings, same_side}, Names.{stands_for}, Scope.{ports_of}}
use Rattle.fb_netcheck.specs.declared.ends.Flow.TheVariants as flows
use Rattle.fb_netcheck.specs.{declared.ends.Holder.{Holder}, declared.ends.Holder.TheVariants.{Own, OfInstance, OfPlug, OfSocket}, declared.ends.Port.{Port}}
use Rattle.fb_netcheck.specs.{declared.ends.Position.{Position}, declared.ends.Position.TheVariants.{Source, Destination}, declared.ends.Target.{Target}}
use Rattle.fb_netcheck.specs.{Settings.{NetworkPlace}, declared.ends.Target.TheVariants.{Unknown, NotChecked, Found}}

-- The side of the port at an end, by whose port it is. What comes in at an own input, or through a plug, is a source inside.
-- Among adapters a socket is an input and a plug an output.
abbrev pub right_side : Position → Holder → Side
right_side Source Own = Input
right_side Destination Own = Output
right_side Source OfInstance = Output
right_side Destination OfInstance = Input
right_side Source OfPlug = Input
right_side Destination OfPlug = Output
right_side Source OfSocket = Output
right_side Destination OfSocket = Input

-- Whose port `I.X` is. Only event and data connections of a block type reach the ports of its own plugs and sockets.
abbrev pub holder_of : UnitKind → Sort → Role → Option Holder
holder_of kind sort roles.Block = Some OfInstance
holder_of kind sort roles.Subapplication = Some OfInstance
holder_of kinds.Block sorts.Event roles.Plug = Some OfPlug
holder_of kinds.Block sorts.Data roles.Plug = Some OfPlug
holder_of kinds.Block sorts.Event roles.Socket = Some OfSocket
holder_of kinds.Block sorts.Data roles.Socket = Some OfSocket
holder_of kind sort role = None

abbrev pub event_port : DeclaredEvent → Port
event_port e = record { side = e.side; flow = flows.Event }

-- internal variables and fields are no ports
abbrev pub port_in_section : Section → TypeUse → Option Port
port_in_section sections.Input used = Some (record { side = Input; flow = flows.Data used })
port_in_section sections.Output used = Some (record { side = Output; flow = flows.Data used })
port_in_section sections.Internal used = None
port_in_section sections.Field used = None

abbrev pub data_port : DeclaredVariable → Option Port
data_port v = port_in_section v.section v.type_use

abbrev pub port_in_role : Role → NameUse → Option Port
port_in_role roles.Plug type_name = Some (record { side = Output; flow = flows.Adapter type_name })
port_in_role roles.Socket type_name = Some (record { side = Input; flow = flows.Adapter type_name })
port_in_role roles.Block type_name = None
port_in_role roles.Subapplication type_name = None

abbrev pub adapter_port : DeclaredInstance → Option Port
adapter_port i = port_in_role i.role i.type_name

-- the port of this sort that a name means
abbrev pub port_in : Sort → Meanings → List ℕ → Option Port
port_in sorts.Event m name = option_map event_port (stands_for m.events name)
port_in sorts.Data m name = option_and_then data_port (stands_for m.variables name)
port_in sorts.Adapter m name = option_and_then adapter_port (stands_for m.instances name)

abbrev pub target_of : Holder → Option Port → Target
target_of holder None = Unknown
target_of holder (Some port) = Found holder port

-- a port of a type; what depends on a type that is not usable is not checked
abbrev pub target_in : Holder → Sort → Option Meanings → List ℕ → Target
target_in holder sort None name = NotChecked
target_in holder sort (Some m) name = target_of holder (port_in sort m name)

abbrev pub target_held : Option Holder → Sort → Option Meanings → List ℕ → Target
target_held None sort m name = Unknown
target_held (Some holder) sort m name = target_in holder sort m name

abbrev pub target_of_instance : UnitKind → Sort → Option DeclaredInstance → Option Meanings → List ℕ → Target
target_of_instance kind sort None m name = Unknown
target_of_instance kind sort (Some i) m name = target_held (holder_of kind sort i.role) sort m name

abbrev pub target_named : NetworkPlace → Sort → List ℕ → Option NameUse → Target
target_named here sort name None = target_of Own (port_in sort here.scope.own name)
target_named here sort name (Some port) = target_of_instance here.kind sort (stands_for here.scope.own.instances name) (ports_of here.scope name) port.name

-- what an end of a connection names
abbrev pub target : NetworkPlace → Sort → End → Target
target here sort end = target_named here sort end.name.name end.port

-- whether it is a port of the right side
abbrev pub is_right : Position → Target → Bool
is_right position Unknown = false
is_right position NotChecked = false
is_right position (Found holder port) = same_side port.side (right_side position holder)

-- the name after the point, or else the one before it
abbrev pub last_name : NameUse → Option NameUse → NameUse
last_name name None = name
last_name name (Some port) = port

-- the place of an end
abbrev pub end_span : End → Span
end_span end = record { start = end.name.span.start; end = (last_name end.name end.port).span.end }
