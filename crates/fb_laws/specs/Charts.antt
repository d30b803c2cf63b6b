-- Each code of charts in other words: where the list of faults has it.
use Rattle.std.specs.Prelude.{◌≡◌, ◌≢◌, ℕ, List, [], ◌∷◌, Option, Some, None, Contains, ◌⊎◌}
use Rattle.fb_laws.specs.Common.{Span, NameUse, AlgorithmTree, StateTree, TransitionTree, TypeTree, Action, Side, Input, Output, End, Plug, Socket, Sources, AlgorithmUnknown, EventUnknown, StateUnknown, DeclaredEvent, DeclaredInstance, stands_for, Meanings, meanings_in_type}
use Rattle.fb_laws.specs.{Declared.{IsBlockAt}, UnitParts.{Charts, IsReportedWhere}, Usable.{IsAdapter, IsNotJudged, IsUsable}}
use Rattle.fb_ecc.specs.Events.{event_in, opposite, span_from}

-- a transition that goes from or to a state that is not listed
pub record HasUnknownState (sources : Sources) (unit : List ℕ) (span : Span) : Type 0 where
  pub block : TypeTree
  pub declared : IsBlockAt sources unit block
  pub transition : TransitionTree
  pub written : Contains block.chart.transitions transition
  pub state : NameUse
  pub named : Contains (transition.source ∷ transition.destination ∷ []) state
  pub unlisted : (s : StateTree) → Contains block.chart.states s → s.name.name ≢ state.name
  pub place : span ≡ state.span

-- an action that runs an algorithm that is not declared
pub record HasUnknownAlgorithm (sources : Sources) (unit : List ℕ) (span : Span) : Type 0 where
  pub block : TypeTree
  pub declared : IsBlockAt sources unit block
  pub state : StateTree
  pub listed : Contains block.chart.states state
  pub action : Action
  pub written : Contains state.actions action
  pub algorithm : NameUse
  pub run : action.algorithm ≡ Some algorithm
  pub undeclared : (a : AlgorithmTree) → Contains block.chart.algorithms a → a.name.name ≢ algorithm.name
  pub place : span ≡ algorithm.span

-- the name means an event of this side
pub record StandsForEvent (ports : Meanings) (name : List ℕ) (side : Side) : Type 0 where
  pub event : DeclaredEvent
  pub first : stands_for ports.events name ≡ Some event
  pub on_side : event.side ≡ side

-- the events that come in, or go out: own ones of that side, those of that side of a plug's type, those of the other side of a socket's type
pub data IsEventOf (sources : Sources) (own : Meanings) (side : Side) : NameUse → Option NameUse → Type 0 where
  own_event : {X : NameUse} → StandsForEvent own X.name side → IsEventOf sources own side X None
  of_plug :
      {p X : NameUse} (i : DeclaredInstance) (ports : Meanings) → stands_for own.instances p.name ≡ Some i
      → i.role ≡ Plug → IsUsable sources i.type_name.name i.role ports → StandsForEvent ports X.name side
      → IsEventOf sources own side p (Some X)
  of_socket :
      {p X : NameUse} (i : DeclaredInstance) (ports : Meanings) → stands_for own.instances p.name ≡ Some i
      → i.role ≡ Socket → IsUsable sources i.type_name.name i.role ports → StandsForEvent ports X.name (opposite side)
      → IsEventOf sources own side p (Some X)

-- what is known, and known not to be such an event; an event of a plug or socket whose type is not usable is not known
abbrev pub IsNoEventOf : Sources → Meanings → Side → End → Type 0
IsNoEventOf sources own side event = (¬ IsEventOf sources own side event.name event.port) × (¬ IsNotJudged sources own IsAdapter event.name event.port)

-- a transition on what is not an input event
pub record HasUnknownTrigger (sources : Sources) (unit : List ℕ) (span : Span) : Type 0 where
  pub block : TypeTree
  pub declared : IsBlockAt sources unit block
  pub transition : TransitionTree
  pub written : Contains block.chart.transitions transition
  pub event : End
  pub trigger : event_in transition.condition ≡ Some event
  pub unknown : IsNoEventOf sources (meanings_in_type block) Input event
  pub place : span ≡ span_from event.name.span event.port

-- an action that sends what is not an output event
pub record HasUnknownSent (sources : Sources) (unit : List ℕ) (span : Span) : Type 0 where
  pub block : TypeTree
  pub declared : IsBlockAt sources unit block
  pub state : StateTree
  pub listed : Contains block.chart.states state
  pub action : Action
  pub written : Contains state.actions action
  pub event : End
  pub sent : action.event ≡ Some event
  pub unknown : IsNoEventOf sources (meanings_in_type block) Output event
  pub place : span ≡ span_from event.name.span event.port

-- a transition on what is not an input event, or an action that sends what is not an output event
abbrev pub HasUnknownEvent : Sources → List ℕ → Span → Type 0
HasUnknownEvent sources unit span = HasUnknownTrigger sources unit span ⊎ HasUnknownSent sources unit span

abbrev pub StatesAreListed : Type 0
StatesAreListed = IsReportedWhere Charts StateUnknown HasUnknownState

abbrev pub EventsAreKnown : Type 0
EventsAreKnown = IsReportedWhere Charts EventUnknown HasUnknownEvent

abbrev pub AlgorithmsAreDeclared : Type 0
AlgorithmsAreDeclared = IsReportedWhere Charts AlgorithmUnknown HasUnknownAlgorithm
