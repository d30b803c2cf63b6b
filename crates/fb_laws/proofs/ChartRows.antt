-- Each code of charts, by what its list of faults has.
use Rattle.fb_laws.proofs.Common.{arith, ◌≡◌, ◌≢◌, ℕ, Bool, false, List, [], ◌∷◌, Option, Some, None, map, refl, sym, ap, ◌∙◌, subst, inl, inr, Contains, flat_map, slice_get, option_map_or, Contains-append_left, Contains-append_right, NameUse, Span, AlgorithmTree, ChartTree, StateTree, TransitionTree, TypeTree, Side, Input, Output, End, Role, Plug, Socket, Sources, tree_at, Code, AlgorithmUnknown, EventUnknown, StateUnknown, Fault, DeclaredInstance, fault_at, has_name, stands_for, Meanings, meanings_in_type, Scope, instance_ports, scope_of_type, usable, contains_flat_map, contains_here, contains_later, contains_map, contains_nothing, contains_single, in_unless, in_written, origin_in_flat_map, origin_in_map, unless, written, chart_faults, ecc_faults_of, none_named, not_named, IsAdapter, IsNotJudged, of_unusable, append-nil, IsBlockAt, Action}
use Rattle.fb_laws.proofs.{ItemRows.{same_sides, side_itself}, UsableTypes.{known_type, no_type, own_type, told_type, type_missing}, Lists.{iff, of_either, in_joined}}
use Rattle.fb_ecc.specs.{Algorithms.{algorithm_fault, algorithm_faults, algorithm_names, run_faults}, declared.events.EventTarget.{EventTarget}}
use Rattle.fb_ecc.specs.declared.events.EventTarget.TheVariants.{Found, Unknown, NotChecked}
use Rattle.fb_ecc.specs.Events.{end_event_faults, event_among, event_behind, event_faults, event_in, event_named, event_of_adapter, opposite, sent_faults, side_through, span_from, target_faults, trigger_faults, written_fault}
use Rattle.fb_ecc.specs.States.{transition_faults, state_fault, state_faults, state_names}
use Rattle.fb_laws.specs.Charts.{AlgorithmsAreDeclared, EventsAreKnown, HasUnknownAlgorithm, HasUnknownEvent, HasUnknownState, IsEventOf, IsNoEventOf, StandsForEvent, StatesAreListed, own_event, of_plug, of_socket}

-- what is so where a unit has a fault of this code
abbrev pub Has : Code → Sources → List ℕ → Span → Type 0
Has StateUnknown = HasUnknownState
Has EventUnknown = HasUnknownEvent
Has AlgorithmUnknown = HasUnknownAlgorithm
Has code = λ sources unit span. ⊥

-- what a list of states, or of algorithms, doesn't name

unlisted_names : {A : Type 0} (name_of : A → NameUse) (items : List A) (q : List ℕ) → has_name (map name_of items) q ≡ false → (a : A) → Contains items a → (name_of a).name ≢ q
unlisted_names name_of items q fails a c = not_named (map name_of items) q fails (name_of a) (contains_map name_of items a c)

none_listed : {A : Type 0} (name_of : A → NameUse) (items : List A) (q : List ℕ) → ((a : A) → Contains items a → (name_of a).name ≢ q) → has_name (map name_of items) q ≡ false
none_listed name_of items q fails = none_named (map name_of items) q (λ n c. let o = origin_in_map name_of items n c in rw (← o.gives) (fails o.origin o.among))

-- actions

record ActionOrigin (f : Action → List Fault) (chart : ChartTree) (fault : Fault) : Type 0 where
  state : StateTree
  listed : Contains chart.states state
  action : Action
  written : Contains state.actions action
  has : Contains (f action) fault

action_origin : (f : Action → List Fault) (chart : ChartTree) (fault : Fault) → Contains (flat_map (λ s. flat_map f s.actions) chart.states) fault → ActionOrigin f chart fault
action_origin f chart fault c =
    let s = origin_in_flat_map (λ (s : StateTree). flat_map f s.actions) chart.states fault c in
    let a = origin_in_flat_map f s.origin.actions fault s.has in
    record { state = s.origin; listed = s.among; action = a.origin; written = a.among; has = a.has }

action_reported : (f : Action → List Fault) (chart : ChartTree) (s : StateTree) (a : Action) (fault : Fault) → Contains chart.states s → Contains s.actions a → Contains (f a) fault → Contains (flat_map (λ s. flat_map f s.actions) chart.states) fault
action_reported f chart s a fault listed written has = contains_flat_map (λ (s : StateTree). flat_map f s.actions) chart.states s fault listed (contains_flat_map f s.actions a fault written has)

-- events: which target it is

stands_for_event : (side : Side) (ports : Meanings) (name : List ℕ) → event_among side ports name ≡ Found → StandsForEvent ports name side
stands_for_event side ports name e = grind (arith, same_sides)

-- ports that are known are checked
judged_among : (side : Side) (ports : Meanings) (name : List ℕ) → event_among side ports name ≢ NotChecked
judged_among side ports name e = grind arith

module _ (sources : Sources) (d : TypeTree) (side : Side) where
  abbrev scope : Scope
  scope = scope_of_type sources d

  abbrev own : Meanings
  own = meanings_in_type d

  abbrev IsEvent : NameUse → Option NameUse → Type 0
  IsEvent = IsEventOf sources own side

  abbrev IsUnjudged : NameUse → Option NameUse → Type 0
  IsUnjudged = IsNotJudged sources own IsAdapter

  -- what a port of a plug or socket is, by its adapter
  at_adapter : (p X : NameUse) (i : DeclaredInstance) → stands_for own.instances p.name ≡ Some i → event_named scope side p (Some X) ≡ option_map_or (event_of_adapter (usable i.role (tree_at sources i.type_name.name)) X.name) (side_through i.role side) Unknown
  at_adapter p X i is = ap (λ o. event_behind scope side o X.name) is ∙ ap (λ k. option_map_or (event_of_adapter k X.name) (side_through i.role side) Unknown) (own_type sources d p.name i is)

  found_behind : (p X : NameUse) → event_named scope side p (Some X) ≡ Found → IsEvent p (Some X)
  found_behind p X e =
      (elim (stands_for own.instances p.name) as (λ o. stands_for own.instances p.name ≡ o → event_behind scope side o X.name ≡ Found → IsEvent p (Some X)) [ None ↦ λ g h. absurd (cc) | Some i ↦ λ g h. by_role i g i.role refl (instance_ports scope i) (sym (own_type sources d p.name i g)) h ]) refl e
    where
      by_role : (i : DeclaredInstance) → stands_for own.instances p.name ≡ Some i → (role : Role) → i.role ≡ role → (ports : Option Meanings) → usable i.role (tree_at sources i.type_name.name) ≡ ports → option_map_or (event_of_adapter ports X.name) (side_through role side) Unknown ≡ Found → IsEvent p (Some X)
      by_role i is Plug r (Some ports) u h = of_plug i ports is r (known_type sources i.type_name.name i.role ports u) (stands_for_event side ports X.name h)
      by_role i is Socket r (Some ports) u h = of_socket i ports is r (known_type sources i.type_name.name i.role ports u) (stands_for_event (opposite side) ports X.name h)
      by_role i is role r ports u h = absurd (cc)

  not_judged_behind : (p X : NameUse) → event_named scope side p (Some X) ≡ NotChecked → IsUnjudged p (Some X)
  not_judged_behind p X e =
      (elim (stands_for own.instances p.name) as (λ o. stands_for own.instances p.name ≡ o → event_behind scope side o X.name ≡ NotChecked → IsUnjudged p (Some X)) [ None ↦ λ g h. absurd (cc) | Some i ↦ λ g h. by_role i g i.role refl (instance_ports scope i) (sym (own_type sources d p.name i g)) h ]) refl e
    where
      by_role : (i : DeclaredInstance) → stands_for own.instances p.name ≡ Some i → (role : Role) → i.role ≡ role → (ports : Option Meanings) → usable i.role (tree_at sources i.type_name.name) ≡ ports → option_map_or (event_of_adapter ports X.name) (side_through role side) Unknown ≡ NotChecked → IsUnjudged p (Some X)
      by_role i is Plug r None u h = of_unusable i is (inl r) (no_type sources i.type_name.name i.role u)
      by_role i is Socket r None u h = of_unusable i is (inr r) (no_type sources i.type_name.name i.role u)
      by_role i is Plug r (Some ports) u h = absurd (judged_among side ports X.name h)
      by_role i is Socket r (Some ports) u h = absurd (judged_among (opposite side) ports X.name h)
      by_role i is role r ports u h = absurd (cc)

  unknown_event : (event : End) → event_named scope side event.name event.port ≡ Unknown → IsNoEventOf sources own side event
  unknown_event event e = grind (arith, at_adapter, told_type, side_itself, type_missing)

  no_event : (event : End) → IsNoEventOf sources own side event → event_named scope side event.name event.port ≡ Unknown
  no_event event fails = grind (arith, own_event, stands_for_event, found_behind, judged_among, not_judged_behind)

abbrev event_fault_at : End → Fault
event_fault_at e = record { code = EventUnknown; span = span_from e.name.span e.port }

record EventOrigin (sources : Sources) (d : TypeTree) (side : Side) (o : Option End) (fault : Fault) : Type 0 where
  event : End
  is_written : o ≡ Some event
  unknown : IsNoEventOf sources (meanings_in_type d) side event
  is : event_fault_at event ≡ fault

event_origin : (sources : Sources) (d : TypeTree) (side : Side) (o : Option End) (fault : Fault) → Contains (written_fault (scope_of_type sources d) side o) fault → EventOrigin sources d side o fault
event_origin sources d side o fault c =
    let w = in_written (end_event_faults (scope_of_type sources d) side) o fault c in
    let fails : (event_named (scope_of_type sources d) side w.item.name w.item.port ≡ Unknown) × (event_fault_at w.item ≡ fault) = grind (arith, contains_single, contains_nothing) in
    record { event = w.item; is_written = w.is; unknown = unknown_event sources d side w.item fails.0; is = fails.1 }

event_reported : (sources : Sources) (d : TypeTree) (side : Side) (o : Option End) (event : End) → o ≡ Some event → IsNoEventOf sources (meanings_in_type d) side event → Contains (written_fault (scope_of_type sources d) side o) (event_fault_at event)
event_reported sources d side o event e unknown =
    written (end_event_faults (scope_of_type sources d) side) o event (event_fault_at event) e
    (subst (λ (t : EventTarget). Contains (target_faults t (span_from event.name.span event.port)) (event_fault_at event)) (sym (no_event sources d side event unknown)) (contains_here (event_fault_at event) []))

-- the faults of a chart, list by list

module _ (sources : Sources) (unit : List ℕ) where
  abbrev Finds : Fault → Type 0
  Finds f = Has f.code sources unit f.span

  module _ (d : TypeTree) (declared : IsBlockAt sources unit d) where
    abbrev block_scope : Scope
    block_scope = scope_of_type sources d

    abbrev listed : List ℕ → Bool
    listed = has_name (state_names d.chart)

    state_found : (t : TransitionTree) → Contains d.chart.transitions t → (state : NameUse) → Contains (t.source ∷ t.destination ∷ []) state → (f : Fault) → Contains (state_fault listed state) f → Finds f
    state_found t written state named f c =
        let fails = in_unless (listed state.name) (fault_at StateUnknown state) f c in
        subst Finds fails.1 (search unlisted_names)

    states_found : (f : Fault) → Contains (state_faults d.chart) f → Finds f
    states_found f c =
        let t = origin_in_flat_map (transition_faults listed) d.chart.transitions f c in
        of_either {P = Finds} _ _ (state_found t.origin t.among t.origin.source (search contains_here)) (state_found t.origin t.among t.origin.destination (search (contains_here, contains_later))) f t.has

    triggers_found : (f : Fault) → Contains (flat_map (trigger_faults block_scope) d.chart.transitions) f → Finds f
    triggers_found f c =
        let t = origin_in_flat_map (trigger_faults block_scope) d.chart.transitions f c in
        let o = event_origin sources d Input (event_in t.origin.condition) f t.has in
        subst Finds o.is (inl search)

    sent_found : (f : Fault) → Contains (flat_map (λ s. flat_map (sent_faults block_scope) s.actions) d.chart.states) f → Finds f
    sent_found f c =
        let a = action_origin (sent_faults block_scope) d.chart f c in
        let o = event_origin sources d Output a.action.event f a.has in
        subst Finds o.is (inr search)

    algorithms_found : (f : Fault) → Contains (algorithm_faults d.chart) f → Finds f
    algorithms_found f c =
        let declares = has_name (algorithm_names d.chart) in
        let a = action_origin (run_faults declares) d.chart f c in
        let w = in_written (algorithm_fault declares) a.action.algorithm f a.has in
        let fails = in_unless (declares w.item.name) (fault_at AlgorithmUnknown w.item) f w.has in
        subst Finds fails.1
        (search (unlisted_names))

    chart_found : (f : Fault) → Contains (chart_faults block_scope d.chart) f → Finds f
    chart_found = of_either _ _ (of_either _ _ states_found (of_either _ _ triggers_found sent_found)) algorithms_found

    -- and the other way, a fault of the list at this place
    reported : {code : Code} {span there : Span} (place : ℕ) (list : List Fault) → slice_get (state_faults d.chart ∷ event_faults block_scope d.chart ∷ algorithm_faults d.chart ∷ []) place ≡ Some list → span ≡ there → Contains list (record { code = code; span = there }) → Contains (ecc_faults_of sources unit) (record { code = code; span = span })
    reported {code = code} {span = span} place list e at c =
        let others = event_faults block_scope d.chart ∷ algorithm_faults d.chart ∷ [] in
        rw declared (in_joined (state_faults d.chart) others place list (record { code = code; span = span }) e (rw at c))

  -- a fault says what its code means
  pub found : (f : Fault) → Contains (ecc_faults_of sources unit) f → Finds f
  found f c = grind (arith, chart_found, contains_nothing)

pub states_listed : StatesAreListed
states_listed sources unit span =
    iff (found sources unit _)
    (λ h. let names : List ℕ → Bool = has_name (state_names h.block.chart) in
    let one = unless (names h.state.name) (fault_at StateUnknown h.state) (none_listed (λ (s : StateTree). s.name) h.block.chart.states h.state.name h.unlisted) in
    let both = contains_flat_map (state_fault names) (h.transition.source ∷ h.transition.destination ∷ []) h.state (fault_at StateUnknown h.state) h.named one in
    reported sources unit h.block h.declared 0 (state_faults h.block.chart) refl h.place (contains_flat_map (transition_faults names) h.block.chart.transitions h.transition _ h.written (simp append-nil at both)))

pub algorithms_declared : AlgorithmsAreDeclared
algorithms_declared sources unit span =
    iff (found sources unit _)
    (λ h. let declares = has_name (algorithm_names h.block.chart) in
    let fault = fault_at AlgorithmUnknown h.algorithm in
    let fails = none_listed (λ (a : AlgorithmTree). a.name) h.block.chart.algorithms h.algorithm.name h.undeclared in
    let one = written (algorithm_fault declares) h.action.algorithm h.algorithm fault h.run (unless (declares h.algorithm.name) fault fails) in
    reported sources unit h.block h.declared 2 (algorithm_faults h.block.chart) refl h.place (action_reported (run_faults declares) h.block.chart h.state h.action fault h.listed h.written one))

pub events_known : EventsAreKnown
events_known sources unit span = (found sources unit _, from)
  where
    from : HasUnknownEvent sources unit span → Contains (ecc_faults_of sources unit) (record { code = EventUnknown; span = span })
    from (inl h) =
        let one = event_reported sources h.block Input (event_in h.transition.condition) h.event h.trigger h.unknown in
        reported sources unit h.block h.declared 1 (event_faults (scope_of_type sources h.block) h.block.chart) refl h.place (search (Contains-append_left, contains_flat_map))
    from (inr h) =
        let one = event_reported sources h.block Output h.action.event h.event h.sent h.unknown in
        reported sources unit h.block h.declared 1 (event_faults (scope_of_type sources h.block) h.block.chart) refl h.place (search (Contains-append_right, contains_flat_map))
