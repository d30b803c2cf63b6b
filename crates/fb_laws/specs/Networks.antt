-- Each code of networks in other words: where the list of faults has it.
use Rattle.std.specs.Prelude.{◌≡◌, ◌≢◌, ℕ, List, ◌∷◌, ◌++◌, Some, Contains}
use Rattle.fb_laws.specs.Common.{NameUse, Span, InstanceTree, NetworkTree, ParameterTree, TypeUse, Connection, End, Sources, Free, DataType, Literal, ParameterUnknown, PassThrough, PortSide, PortUnknown, SecondAdapter, SecondSource, DeclaredVariable, class_of_type, stands_for, Meanings, Holder, Own, Port, Position, Source, Destination, Block}
use Rattle.fb_laws.specs.{Declarations.{IsMisfit}, Ends.{HaveSameNames, IsEndOf, IsNetworkOf, IsReachedBy, IsRightSide, Names, NamesRight, Site, place_of}}
use Rattle.fb_laws.specs.{Usable.{IsNotJudged, IsUsable}, UnitParts.{IsReportedWhere, Networks}}
use Rattle.fb_tree.specs.declared.interface.Section.TheVariants as sections
use Rattle.fb_tree.specs.declared.interface.TypeForm.TheVariants as forms
use Rattle.fb_tree.specs.declared.kinds.UnitKind.TheVariants as kinds
use Rattle.fb_tree.specs.declared.network.Sort.TheVariants as sorts
use Rattle.fb_netcheck.specs.{declared.ends.Flow.{Flow}, Spellings.{words_at}}
use Rattle.fb_netcheck.specs.declared.ends.Flow.TheVariants as flows

-- a connection of a network of the unit
pub record ConnectionOf (sources : Sources) (unit : List ℕ) : Type 0 where
  pub here : Site
  pub network : NetworkTree
  pub stands : IsNetworkOf sources unit here network
  pub connection : Connection
  pub listed : Contains network.connections connection

-- an end of one
pub record EndOf (sources : Sources) (unit : List ℕ) : Type 0 where
  pub joined : ConnectionOf sources unit
  pub open joined use *
  pub position : Position
  pub end : End
  pub is_end : IsEndOf connection position end

-- an end that names no port of the connection's sort, and is none of an instance that connections of this sort reach and whose type is not usable
pub record HasUnknownPort (sources : Sources) (unit : List ℕ) (span : Span) : Type 0 where
  pub of : EndOf sources unit
  pub open of use *
  pub unknown : (holder : Holder) (home : List ℕ) (port : Port)
      → ¬ Names sources here connection.sort end.name end.port holder home port
  pub judged : ¬ IsNotJudged sources here.own (IsReachedBy here connection.sort) end.name end.port
  pub place : span ≡ place_of end

-- an end that names a port of the wrong side
pub record HasWrongSide (sources : Sources) (unit : List ℕ) (span : Span) : Type 0 where
  pub of : EndOf sources unit
  pub open of use *
  pub holder : Holder
  pub home : List ℕ
  pub port : Port
  pub names : Names sources here connection.sort end.name end.port holder home port
  pub wrong : ¬ IsRightSide position holder port.side
  pub place : span ≡ place_of end

-- Two data types that are the same, each in the text of a unit: plain ones of one name, and two with a length or two arrays whose tokens are
-- the same in upper case.
pub data IsSameType (sources : Sources) (unit : List ℕ) (a : TypeUse) (other : List ℕ) (b : TypeUse) : Type 0 where
  of_names : a.form ≡ forms.Plain → b.form ≡ forms.Plain → a.name.name ≡ b.name.name
      → IsSameType sources unit a other b
  of_sizes : a.form ≡ forms.Sized → b.form ≡ forms.Sized
      → words_at sources unit a.span ≡ words_at sources other b.span
      → IsSameType sources unit a other b
  of_arrays : a.form ≡ forms.Array → b.form ≡ forms.Array
      → words_at sources unit a.span ≡ words_at sources other b.span
      → IsSameType sources unit a other b

-- Two ports of different types, each declared in the text of a unit: of data types, if neither is of the class Free; of adapter types by
-- their names.
pub data DifferInType (sources : Sources) (unit other : List ℕ) : Flow → Flow → Type 0 where
  data_types : {a b : TypeUse} → class_of_type a ≢ Free → class_of_type b ≢ Free
      → ¬ IsSameType sources unit a other b
      → DifferInType sources unit other (flows.Data a) (flows.Data b)
  adapter_types : {a b : NameUse} → a.name ≢ b.name
      → DifferInType sources unit other (flows.Adapter a) (flows.Adapter b)

-- a connection of two ports of the right sides and of different types
pub record HasOtherType (sources : Sources) (unit : List ℕ) (span : Span) : Type 0 where
  pub of : ConnectionOf sources unit
  pub open of use *
  pub from : NamesRight sources here connection.sort Source connection.source
  pub to : NamesRight sources here connection.sort Destination connection.destination
  pub differ : DifferInType sources from.unit to.unit from.port.flow to.port.flow
  pub place : span ≡ place_of connection.destination

-- a data connection with the destination of an earlier one of the network
pub record HasSecondSource (sources : Sources) (unit : List ℕ) (span : Span) : Type 0 where
  pub here : Site
  pub network : NetworkTree
  pub stands : IsNetworkOf sources unit here network
  pub before : List Connection
  pub again : Connection
  pub after : List Connection
  pub listed : network.connections ≡ before ++ again ∷ after
  pub of_data : again.sort ≡ sorts.Data
  pub first : Connection
  pub earlier : Contains before first
  pub first_of_data : first.sort ≡ sorts.Data
  pub same : HaveSameNames first.destination again.destination
  pub place : span ≡ place_of again.destination

-- an end of an adapter connection that is an end of an earlier one, or a destination that is the source of its own
pub data IsTaken (before : List Connection) (c : Connection) : Position → End → Type 0 where
  by_earlier : {position : Position} {end : End} (first : Connection) (other : Position) (taken : End)
      → Contains before first → first.sort ≡ sorts.Adapter → IsEndOf first other taken
      → HaveSameNames taken end → IsTaken before c position end
  by_source : HaveSameNames c.source c.destination → IsTaken before c Destination c.destination

-- an end of an adapter connection that is taken
pub record HasSecondAdapter (sources : Sources) (unit : List ℕ) (span : Span) : Type 0 where
  pub here : Site
  pub network : NetworkTree
  pub stands : IsNetworkOf sources unit here network
  pub before : List Connection
  pub again : Connection
  pub after : List Connection
  pub listed : network.connections ≡ before ++ again ∷ after
  pub of_adapter : again.sort ≡ sorts.Adapter
  pub position : Position
  pub end : End
  pub is_end : IsEndOf again position end
  pub taken : IsTaken before again position end
  pub place : span ≡ place_of end

-- a connection of a subapplication type from an own port to an own port, both of the right sides
pub record HasPassThrough (sources : Sources) (unit : List ℕ) (span : Span) : Type 0 where
  pub of : ConnectionOf sources unit
  pub open of use *
  pub in_subapplication : here.kind ≡ kinds.Subapplication
  pub from : NamesRight sources here connection.sort Source connection.source
  pub to : NamesRight sources here connection.sort Destination connection.destination
  pub own_source : from.holder ≡ Own
  pub own_destination : to.holder ≡ Own
  pub starts : span.start ≡ (place_of connection.source).start
  pub ends : span.end ≡ (place_of connection.destination).end

-- a parameter of a block instance whose type is usable
pub record ParameterOf (sources : Sources) (unit : List ℕ) : Type 0 where
  pub here : Site
  pub network : NetworkTree
  pub stands : IsNetworkOf sources unit here network
  pub instance : InstanceTree
  pub listed : Contains network.instances instance
  pub is_block : instance.role ≡ Block
  pub ports : Meanings
  pub usable : IsUsable sources instance.type_name.name Block ports
  pub parameter : ParameterTree
  pub written : Contains instance.parameters parameter

-- a parameter of a block instance whose name means no data input of the instance's type, if this type is usable
pub record HasUnknownParameter (sources : Sources) (unit : List ℕ) (span : Span) : Type 0 where
  pub of : ParameterOf sources unit
  pub open of use *
  pub no_input : (v : DeclaredVariable) → stands_for ports.variables parameter.name.name ≡ Some v
      → v.section ≢ sections.Input
  pub place : span ≡ parameter.name.span

-- a parameter of a block instance whose name means a data input of the instance's type, and whose value doesn't fit the input's type
pub record HasMisfit (sources : Sources) (unit : List ℕ) (span : Span) : Type 0 where
  pub of : ParameterOf sources unit
  pub open of use *
  pub input : DeclaredVariable
  pub first : stands_for ports.variables parameter.name.name ≡ Some input
  pub is_input : input.section ≡ sections.Input
  pub misfit : IsMisfit input.type_use parameter.value span

abbrev pub PortsAreKnown : Type 0
PortsAreKnown = IsReportedWhere Networks PortUnknown HasUnknownPort

abbrev pub PortsAreOfRightSides : Type 0
PortsAreOfRightSides = IsReportedWhere Networks PortSide HasWrongSide

abbrev pub TypesAgree : Type 0
TypesAgree = IsReportedWhere Networks DataType HasOtherType

abbrev pub DestinationsHaveOneSource : Type 0
DestinationsHaveOneSource = IsReportedWhere Networks SecondSource HasSecondSource

abbrev pub AdaptersHaveOneEnd : Type 0
AdaptersHaveOneEnd = IsReportedWhere Networks SecondAdapter HasSecondAdapter

abbrev pub NothingPassesThrough : Type 0
NothingPassesThrough = IsReportedWhere Networks PassThrough HasPassThrough

abbrev pub ParametersAreKnown : Type 0
ParametersAreKnown = IsReportedWhere Networks ParameterUnknown HasUnknownParameter

abbrev pub ParametersFit : Type 0
ParametersFit = IsReportedWhere Networks Literal HasMisfit
