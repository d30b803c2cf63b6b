-- The faults of a unit's networks, network by network.
use Rattle.fb_laws.proofs.Common.{arith, ◌≡◌, ℕ, List, [], ◌∷◌, Option, Some, None, refl, sym, subst, Contains, flat_map, slice_get, Span, DeclTree, NetworkTree, block_type, subapplication_type, system_configuration, Connection, End, Sources, tree_at, first_ones, instances_in, type_ports_of, Code, DataType, Literal, ParameterUnknown, PassThrough, PortSide, PortUnknown, SecondAdapter, SecondSource, Fault, contains_flat_map, contains_nothing, origin_in_flat_map, Source, Destination, connection_faults, end_span, target, application_network, net_faults_of, network_faults, tree_faults, all_parameters, second_adapters, second_sources, NetworkPlace, end_faults, pass_through_faults, joined_types, IsNetworkOf, Site, place_of, HasMisfit, HasOtherType, HasPassThrough, HasSecondAdapter, HasSecondSource, HasUnknownParameter, HasUnknownPort, HasWrongSide, ConnectionOf}
use Rattle.fb_laws.proofs.Lists.{in_joined}
use Rattle.fb_laws.specs.Ends.{of_block, of_subapplication, of_application}

-- the place of a network as the check has it
abbrev pub place_at : Sources → Site → NetworkTree → NetworkPlace
place_at sources here n = record { unit = here.unit; kind = here.kind; scope = record { own = here.own; type_ports = type_ports_of sources n } }

-- what is so where a unit has a fault of a network
abbrev pub Has : Code → Sources → List ℕ → Span → Type 0
Has PortUnknown = HasUnknownPort
Has PortSide = HasWrongSide
Has DataType = HasOtherType
Has SecondSource = HasSecondSource
Has SecondAdapter = HasSecondAdapter
Has PassThrough = HasPassThrough
Has ParameterUnknown = HasUnknownParameter
Has Literal = HasMisfit
Has code = λ sources unit span. ⊥

abbrev pub Finds : Sources → List ℕ → Fault → Type 0
Finds sources unit f = Has f.code sources unit f.span

-- the faults of a connection

abbrev pub at_source : NetworkPlace → Connection → List Fault
at_source here c = end_faults Source c.source (target here c.sort c.source)

abbrev pub at_destination : NetworkPlace → Connection → List Fault
at_destination here c = end_faults Destination c.destination (target here c.sort c.destination)

abbrev pub at_both : NetworkPlace → Connection → List Fault
at_both here c = pass_through_faults here.kind c (target here c.sort c.source) (target here c.sort c.destination)

-- a fault of a unit is one of a network
pub in_network : (sources : Sources) (unit : List ℕ) (f : Fault) → ((here : Site) (n : NetworkTree) → IsNetworkOf sources unit here n → Contains (network_faults sources (place_at sources here n) n) f → Finds sources unit f) → Contains (net_faults_of sources unit) f → Finds sources unit f
in_network sources unit f found c = by (tree_at sources unit) refl c
  where
    by : (o : Option DeclTree) → tree_at sources unit ≡ o → Contains (tree_faults sources unit o) f → Finds sources unit f
    by (Some (block_type d)) e h = found _ d.network (of_block d e) h
    by (Some (subapplication_type d)) e h = found _ d.network (of_subapplication d e) h
    by (Some (system_configuration s)) e h = let a = origin_in_flat_map (application_network sources unit) s.applications f h in found _ a.origin.network (of_application s a.origin e a.among) a.has
    by o e h = absurd (contains_nothing f h)

network_reported : (sources : Sources) (unit : List ℕ) (here : Site) (n : NetworkTree) → IsNetworkOf sources unit here n → (f : Fault) → Contains (network_faults sources (place_at sources here n) n) f → Contains (net_faults_of sources unit) f
network_reported sources unit here n (of_block d e) f h = subst (λ (o : Option DeclTree). Contains (tree_faults sources unit o) f) (sym e) h
network_reported sources unit here n (of_subapplication d e) f h = subst (λ (o : Option DeclTree). Contains (tree_faults sources unit o) f) (sym e) h
network_reported sources unit here n (of_application s a e among) f h =
    subst (λ (o : Option DeclTree). Contains (tree_faults sources unit o) f) (sym e) (contains_flat_map (application_network sources unit) s.applications a f among h)

module _ (sources : Sources) (unit : List ℕ) (here : Site) (n : NetworkTree) (stands : IsNetworkOf sources unit here n) where
  abbrev pub of_connections : List Fault
  of_connections = flat_map (connection_faults (place_at sources here n)) n.connections

  abbrev pub of_others : List (List Fault)
  of_others = flat_map (joined_types sources (place_at sources here n)) n.connections ∷ second_sources n.connections ∷ second_adapters n.connections ∷ all_parameters (place_at sources here n).scope n.instances ∷ []

  -- a fault of the list at this place
  pub reported : {code : Code} {span there : Span} (place : ℕ) (list : List Fault) → slice_get (of_connections ∷ of_others) place ≡ Some list → span ≡ there → Contains list (record { code = code; span = there }) → Contains (net_faults_of sources unit) (record { code = code; span = span })
  reported {code = code} {span = span} place list e at c =
      let one = subst (λ (s : Span). Contains list (record { code = code; span = s })) (sym at) c in
      network_reported sources unit here n stands (record { code = code; span = span }) (in_joined of_connections of_others place list (record { code = code; span = span }) e one)

-- a fault of a connection
pub connection_reported : (sources : Sources) (unit : List ℕ) (o : ConnectionOf sources unit) {code : Code} {span there : Span} → span ≡ there → Contains (connection_faults (place_at sources o.here o.network) o.connection) (record { code = code; span = there }) → Contains (net_faults_of sources unit) (record { code = code; span = span })
connection_reported sources unit o place has = reported sources unit o.here o.network o.stands 0 _ refl place (contains_flat_map (connection_faults (place_at sources o.here o.network)) o.network.connections o.connection _ o.listed has)

-- the instances of a network are among what its names mean
pub own_instances : (sources : Sources) (unit : List ℕ) (here : Site) (n : NetworkTree) → IsNetworkOf sources unit here n → here.own.instances ≡ first_ones (instances_in n)
own_instances sources unit here n stands = grind (arith, of_block)

-- the places of ends

pub end_place : (e : End) → end_span e ≡ place_of e
end_place e = elim e.port as (λ port. end_span (record { name = e.name; port = port }) ≡ place_of (record { name = e.name; port = port })) [ None ↦ refl | Some p ↦ refl ]

abbrev pub fault_at_end : Code → End → Fault
fault_at_end code e = record { code = code; span = place_of e }
