-- The networks of a unit, and what the ends of their connections name.
use Rattle.std.specs.Prelude.{◌≡◌, ◌≢◌, ℕ, List, [], Option, Some, None, option_map, Contains}
use Rattle.fb_laws.specs.Common.{NameUse, Span, ApplicationTree, NetworkTree, SystemTree, TypeTree, block_type, subapplication_type, system_configuration, Side, Input, Output, UnitKind, Connection, End, Sort, Sources, tree_at, DeclaredEvent, DeclaredInstance, DeclaredVariable, first_ones, stands_for, Meanings, instances_in, meanings_in_type, Holder, Own, OfInstance, OfPlug, OfSocket, Port, Position, Source, Destination, Block, Plug, Socket, Subapplication}
use Rattle.fb_laws.specs.{Places.{span_through}, Usable.{IsUsable}}
use Rattle.fb_tree.specs.declared.interface.Section.TheVariants as sections
use Rattle.fb_tree.specs.declared.kinds.UnitKind.TheVariants as kinds
use Rattle.fb_tree.specs.declared.network.Sort.TheVariants as sorts
use Rattle.fb_netcheck.specs.declared.ends.Flow.TheVariants as flows

-- the place of a network: the unit, its kind, and what its own names mean
pub record Site : Type 0 where
  pub unit : List ℕ
  pub kind : UnitKind
  pub own : Meanings

-- A network of the unit, with its place: that of a block type, of a subapplication type, or of an application of a system, which has no own
-- ports.
pub data IsNetworkOf (sources : Sources) (unit : List ℕ) : Site → NetworkTree → Type 0 where
  of_block : (d : TypeTree) → tree_at sources unit ≡ Some (block_type d)
      → IsNetworkOf sources unit (record { unit = unit; kind = kinds.Block; own = meanings_in_type d }) d.network
  of_subapplication : (d : TypeTree) → tree_at sources unit ≡ Some (subapplication_type d)
      → IsNetworkOf sources unit (record { unit = unit; kind = kinds.Subapplication; own = meanings_in_type d }) d.network
  of_application : (s : SystemTree) (a : ApplicationTree)
      → tree_at sources unit ≡ Some (system_configuration s) → Contains s.applications a
      → IsNetworkOf sources unit (record {
        unit = unit;
        kind = kinds.System;
        own = record { events = []; variables = []; instances = first_ones (instances_in a.network) };
      }) a.network

-- an end of a connection, with its position in it
pub data IsEndOf (c : Connection) : Position → End → Type 0 where
  source : IsEndOf c Source c.source
  destination : IsEndOf c Destination c.destination

abbrev pub place_of : End → Span
place_of end = span_through end.name end.port

-- two ends of the same names
abbrev pub HaveSameNames : End → End → Type 0
HaveSameNames a b = (a.name.name ≡ b.name.name)
    × (option_map (λ n. n.name) a.port ≡ option_map (λ n. n.name) b.port)

-- a name of a unit means a port of this sort: an event, a data input or output, a socket as an input or a plug as an output
pub data IsPort (ports : Meanings) (name : List ℕ) : Sort → Port → Type 0 where
  event : (e : DeclaredEvent) → stands_for ports.events name ≡ Some e
      → IsPort ports name sorts.Event (record { side = e.side; flow = flows.Event })
  data_input : (v : DeclaredVariable) → stands_for ports.variables name ≡ Some v
      → v.section ≡ sections.Input
      → IsPort ports name sorts.Data (record { side = Input; flow = flows.Data v.type_use })
  data_output : (v : DeclaredVariable) → stands_for ports.variables name ≡ Some v
      → v.section ≡ sections.Output
      → IsPort ports name sorts.Data (record { side = Output; flow = flows.Data v.type_use })
  socket : (i : DeclaredInstance) → stands_for ports.instances name ≡ Some i → i.role ≡ Socket
      → IsPort ports name sorts.Adapter (record { side = Input; flow = flows.Adapter i.type_name })
  plug : (i : DeclaredInstance) → stands_for ports.instances name ≡ Some i → i.role ≡ Plug
      → IsPort ports name sorts.Adapter (record { side = Output; flow = flows.Adapter i.type_name })

-- Connections of this sort reach the ports of an instance; those of an own plug or socket are reached by events and data, in a block type.
pub data IsReached (here : Site) (sort : Sort) (i : DeclaredInstance) : Holder → Type 0 where
  of_block_instance : i.role ≡ Block → IsReached here sort i OfInstance
  of_subapplication_instance : i.role ≡ Subapplication → IsReached here sort i OfInstance
  of_plug : i.role ≡ Plug → here.kind ≡ kinds.Block → sort ≢ sorts.Adapter
      → IsReached here sort i OfPlug
  of_socket : i.role ≡ Socket → here.kind ≡ kinds.Block → sort ≢ sorts.Adapter
      → IsReached here sort i OfSocket

-- The port of this sort that `X` or `I.X` names: whose it is, and the unit in whose text it is declared.
pub data Names (sources : Sources) (here : Site) (sort : Sort) : NameUse → Option NameUse → Holder → List ℕ → Port → Type 0 where
  own_port : {X : NameUse} {port : Port} → IsPort here.own X.name sort port
      → Names sources here sort X None Own here.unit port
  port_of : {I X : NameUse} {holder : Holder} {port : Port} (i : DeclaredInstance) (ports : Meanings)
      → stands_for here.own.instances I.name ≡ Some i → IsReached here sort i holder
      → IsUsable sources i.type_name.name i.role ports → IsPort ports X.name sort port
      → Names sources here sort I (Some X) holder i.type_name.name port

-- connections of this sort reach the ports of the instance
abbrev pub IsReachedBy : Site → Sort → DeclaredInstance → Type 0
IsReachedBy here sort i = (holder : Holder) × IsReached here sort i holder

-- The right sides. What comes in at an own input, or through a plug, is a source inside.
pub data IsRightSide : Position → Holder → Side → Type 0 where
  own_source : IsRightSide Source Own Input
  own_destination : IsRightSide Destination Own Output
  instance_source : IsRightSide Source OfInstance Output
  instance_destination : IsRightSide Destination OfInstance Input
  plug_source : IsRightSide Source OfPlug Input
  plug_destination : IsRightSide Destination OfPlug Output
  socket_source : IsRightSide Source OfSocket Output
  socket_destination : IsRightSide Destination OfSocket Input

-- an end names a port of the right side
pub record NamesRight (sources : Sources) (here : Site) (sort : Sort) (position : Position) (end : End) : Type 0 where
  pub holder : Holder
  pub unit : List ℕ
  pub port : Port
  pub names : Names sources here sort end.name end.port holder unit port
  pub right : IsRightSide position holder port.side
