-- Each code of networks, by what the list of faults has.
use Rattle.fb_laws.proofs.Common.{arith, ◌≡◌, ◌≢◌, ℕ, List, [], ◌∷◌, Option, Some, None, refl, sym, ◌∙◌, subst, Contains, Span, InstanceTree, NetworkTree, ParameterTree, Section, Role, Sources, tree_at, fault_at, stands_for, Meanings, type_ports_of, usable, Code, ParameterUnknown, Fault, DeclaredVariable, contains_flat_map, contains_here, contains_nothing, contains_single, origin_in_flat_map, net_faults_of, all_parameters, instance_parameters, judged_parameters, parameter_faults, typed_parameters, value_faults, NetworkPlace, IsNetworkOf, Site, Block, ParameterOf, ap, false_from_ne_true, Connection, DataType, PortSide, PortUnknown, same_side, unless, Source, Destination, Unknown, Found, connection_faults, fault_of, joined_types, network_faults, right_side, source, destination, AdaptersHaveOneEnd, DestinationsHaveOneSource, NothingPassesThrough, ParametersAreKnown, ParametersFit, PortsAreKnown, PortsAreOfRightSides, TypesAgree, ConnectionOf}
use Rattle.fb_laws.proofs.{DeclarationRows.{misfit_origin, misfit_reported}, NetworkLemmas.{Finds, Has, place_at, reported, connection_reported, end_place, in_network, own_instances}}
use Rattle.fb_laws.proofs.{UsableTypes.{known_type, listed_type, told_type}, ConnectionRows.{end_found, end_reported, pass_found, pass_reported, type_found, type_reported}}
use Rattle.fb_laws.proofs.{Lists.{iff, of_either}, NetworkEnds.{known_right, known_unknown, told_names}, RepeatRows.{adapter_reported, adapters_found, source_reported, sources_found}}
use Rattle.fb_tree.specs.declared.interface.Section.TheVariants as sections

module _ (sources : Sources) (unit : List ℕ) (o : ParameterOf sources unit) where
  abbrev at : NetworkPlace
  at = place_at sources o.here o.network

  abbrev meant : Option DeclaredVariable
  meant = stands_for o.ports.variables o.parameter.name.name

  written_found : (f : Fault) → Contains (parameter_faults meant o.parameter) f → Finds sources unit f
  written_found f h = by meant refl h
    where
      missing : ((v : DeclaredVariable) → meant ≡ Some v → v.section ≢ sections.Input) → Contains (fault_at ParameterUnknown o.parameter.name ∷ []) f → Finds sources unit f
      missing none h = subst (Finds sources unit) (contains_single (fault_at ParameterUnknown o.parameter.name) f h) (record { of = o; no_input = none; place = refl })

      by_section : (d : DeclaredVariable) (s : Section) → meant ≡ Some d → d.section ≡ s → Contains (value_faults s d.type_use o.parameter) f → Finds sources unit f
      by_section d sections.Input e is h =
          let m = misfit_origin d.type_use o.parameter.value f h in
          subst (λ (code : Code). Has code sources unit f.span) (sym m.0) (record { of = o; input = d; first = e; is_input = is; misfit = m.1 })
      by_section d s e is h = missing (λ v same input. let fails : ⊥ = cc in fails) h

      by : (v : Option DeclaredVariable) → meant ≡ v → Contains (parameter_faults v o.parameter) f → Finds sources unit f
      by None e h = missing (λ v same. let fails : ⊥ = cc in absurd fails) h
      by (Some d) e h = by_section d d.section e refl h

  -- and the other way
  pub parameter_reported : {code : Code} {span there : Span} → span ≡ there → Contains (parameter_faults meant o.parameter) (record { code = code; span = there }) → Contains (net_faults_of sources unit) (record { code = code; span = span })
  parameter_reported {code = code} {there = there} place has =
      let f : Fault = record { code = code; span = there } in
      let one = contains_flat_map (λ (p : ParameterTree). parameter_faults (stands_for o.ports.variables p.name.name) p) o.instance.parameters o.parameter f o.written has in
      let type = listed_type sources o.network o.instance o.listed Block ∙ told_type sources o.instance.type_name.name Block o.ports o.usable in
      let typed = subst (λ (m : Option Meanings). Contains (typed_parameters m o.instance.parameters) f) (sym type) one in
      reported sources unit o.here o.network o.stands 4 _ refl place
      (contains_flat_map (instance_parameters at.scope) o.network.instances o.instance f o.listed (subst (λ (role : Role). Contains (judged_parameters at.scope role o.instance) f) (sym o.is_block) typed))

pub parameter_found : (sources : Sources) (unit : List ℕ) (here : Site) (n : NetworkTree) → IsNetworkOf sources unit here n → (f : Fault) → Contains (all_parameters (place_at sources here n).scope n.instances) f → Finds sources unit f
parameter_found sources unit here n stands f c = let i = origin_in_flat_map (instance_parameters (place_at sources here n).scope) n.instances f c in by_role i.origin i.among i.origin.role refl i.has
  where
    by_ports : (i : InstanceTree) → Contains n.instances i → i.role ≡ Block → (m : Option Meanings) → usable Block (tree_at sources i.type_name.name) ≡ m → Contains (typed_parameters m i.parameters) f → Finds sources unit f
    by_ports i among is None e h = absurd (contains_nothing f h)
    by_ports i among is (Some m) e h =
        let p = origin_in_flat_map (λ (p : ParameterTree). parameter_faults (stands_for m.variables p.name.name) p) i.parameters f h in
        let type = known_type sources i.type_name.name Block m e in
        written_found sources unit (record { here = here; network = n; stands = stands; instance = i; listed = among; is_block = is; ports = m; usable = type; parameter = p.origin; written = p.among }) f p.has

    by_role : (i : InstanceTree) → Contains n.instances i → (role : Role) → i.role ≡ role → Contains (judged_parameters (place_at sources here n).scope role i) f → Finds sources unit f
    by_role i among Block is h = by_ports i among is (type_ports_of sources n Block i.type_name.name) (sym (listed_type sources n i among Block)) h
    by_role i among role is h = absurd (contains_nothing f h)

connection_found : (sources : Sources) (unit : List ℕ) (o : ConnectionOf sources unit) (f : Fault) → Contains (connection_faults (place_at sources o.here o.network) o.connection) f → Finds sources unit f
connection_found sources unit o =
    of_either _ _ (of_either _ _
    (end_found sources unit (record { joined = o; position = Source; end = o.connection.source; is_end = source }))
    (end_found sources unit (record { joined = o; position = Destination; end = o.connection.destination; is_end = destination })))
    (pass_found sources unit o)

network_found : (sources : Sources) (unit : List ℕ) (here : Site) (n : NetworkTree) → IsNetworkOf sources unit here n → (f : Fault) → Contains (network_faults sources (place_at sources here n) n) f → Finds sources unit f
network_found sources unit here n stands =
    of_either _ _ (of_either _ _ (of_either _ _ (of_either _ _
    (λ f c. let o = origin_in_flat_map (connection_faults (place_at sources here n)) n.connections f c in connection_found sources unit (of o.origin o.among) f o.has)
    (λ f c. let o = origin_in_flat_map (joined_types sources (place_at sources here n)) n.connections f c in type_found sources unit (of o.origin o.among) f o.has))
    (sources_found sources unit here n stands)) (adapters_found sources unit here n stands)) (parameter_found sources unit here n stands)
  where
    of : (c : Connection) → Contains n.connections c → ConnectionOf sources unit
    of c among = record { here = here; network = n; stands = stands; connection = c; listed = among }

-- a fault says what its code means
pub found : (sources : Sources) (unit : List ℕ) (f : Fault) → Contains (net_faults_of sources unit) f → Finds sources unit f
found sources unit f = in_network sources unit f (λ here n stands. network_found sources unit here n stands f)

pub ports_known : PortsAreKnown
ports_known sources unit span =
    iff (found sources unit _)
    (λ h. let e = known_unknown sources h.here h.network (own_instances sources unit h.here h.network h.stands) h.connection.sort h.end.name h.end.port h.unknown h.judged in
    end_reported sources unit h.of PortUnknown Unknown h.place e (contains_here (fault_of PortUnknown h.end) []))

pub of_right_sides : PortsAreOfRightSides
of_right_sides sources unit span =
    iff (found sources unit _)
    (λ h. let e = told_names sources h.here h.network (own_instances sources unit h.here h.network h.stands) h.connection.sort h.end.name h.end.port h.holder h.home h.port h.names in
    let test = same_side h.port.side (right_side h.position h.holder) in
    let fails = false_from_ne_true test (λ right. h.wrong (known_right h.position h.holder h.port.side right)) in
    end_reported sources unit h.of PortSide (Found h.holder h.port) h.place e (unless test (fault_of PortSide h.end) fails))

pub of_one_type : TypesAgree
of_one_type sources unit span =
    iff (found sources unit _)
    (λ h. let one = type_reported sources unit h.of h.from h.to h.differ in
    reported sources unit h.here h.network h.stands 1 _ refl (h.place ∙ sym (end_place h.connection.destination))
    (contains_flat_map (joined_types sources (place_at sources h.here h.network)) h.network.connections h.connection (fault_of DataType h.connection.destination) h.listed one))

pub passes_nothing : NothingPassesThrough
passes_nothing sources unit span =
    iff (found sources unit _)
    (λ h. let starts = h.starts ∙ sym (ap (λ (s : Span). s.start) (end_place h.connection.source)) in
    let ends = h.ends ∙ sym (ap (λ (s : Span). s.end) (end_place h.connection.destination)) in
    connection_reported sources unit h.of (λ i. record { start = starts i; end = ends i }) (pass_reported sources unit h.of h.from h.to h.in_subapplication h.own_source h.own_destination))

pub one_source : DestinationsHaveOneSource
one_source sources unit span = iff (found sources unit _) (λ h. reported sources unit h.here h.network h.stands 2 _ refl h.place (source_reported h))

pub one_end : AdaptersHaveOneEnd
one_end sources unit span = iff (found sources unit _) (λ h. reported sources unit h.here h.network h.stands 3 _ refl h.place (adapter_reported h))

pub parameters_known : ParametersAreKnown
parameters_known sources unit span =
    iff (found sources unit _)
    (λ h. parameter_reported sources unit h.of h.place (grind (arith, contains_here)))

pub parameters_fit : ParametersFit
parameters_fit sources unit span =
    iff (found sources unit _)
    (λ h. parameter_reported sources unit h.of refl (grind (arith, misfit_reported)))
