-- Connections of ports of different types and through a subapplication, and ends that name no port or one of the wrong side, by what the list of faults has.
use Rattle.fb_laws.proofs.Common.{arith, ◌≡◌, ℕ, Bool, true, false, not, ◌&&◌, ◌||◌, List, ◌++◌, refl, sym, ap, ◌∙◌, subst, true≢false, bytes_decides, same_text, Contains, Contains-append_right, false_from_ne_true, and_from, and_parts, or_from, or_parts, not_true, Span, NetworkTree, TypeForm, TypeUse, UnitKind, Connection, Sources, class_of_type, is_free, first_ones, is_same, instances_in, DataType, PassThrough, Fault, contains_nothing, same_exact, same_itself, Own, Source, Destination, Target, connection_faults, is_right, target, NetworkPlace, connection_span, fault_of, is_own_port, pass_through_faults, flows_agree, joined_types, same_at_ends, targets_agree, NamesRight, Site, DifferInType, IsSameType, of_names, of_sizes, of_arrays, data_types, adapter_types, Contains-append_left, End, same_side, Code, PortSide, PortUnknown, contains_single, in_unless, Position, right_side, net_faults_of, end_faults, IsEndOf, place_of, source, destination, ConnectionOf, EndOf}
use Rattle.fb_laws.proofs.{RuleLemmas.{judged, not_free}, Lists.{in_where, where_passes}}
use Rattle.fb_laws.proofs.NetworkEnds.{IsTarget, end_target, is_found, is_not_judged, is_target, is_unknown, known_end, known_own, told_end, told_home, told_own, told_right, unknown_names}
use Rattle.fb_laws.proofs.NetworkLemmas.{Finds, at_both, at_destination, at_source, connection_reported, end_place, own_instances, place_at}
use Rattle.fb_tree.specs.declared.interface.TypeForm.TheVariants as forms
use Rattle.fb_tree.specs.declared.kinds.UnitKind.TheVariants as kinds
use Rattle.fb_netcheck.specs.{declared.ends.Flow.{Flow}, Spellings.{same_by_form, same_type, same_words, words_at}}

-- types

module _ (sources : Sources) (unit other : List ℕ) where
  abbrev same : TypeUse → TypeUse → Bool
  same a b = same_type sources unit a other b

  known_same : (a b : TypeUse) → same a b ≡ true → IsSameType sources unit a other b
  known_same a b e = by a.form b.form refl refl e
    where
      by : (f g : TypeForm) → a.form ≡ f → b.form ≡ g → same_by_form f g (is_same a.name.name b.name.name) (same_words sources unit a.span other b.span) ≡ true → IsSameType sources unit a other b
      by forms.Plain forms.Plain p q e = of_names p q (same_exact a.name.name b.name.name e)
      by forms.Sized forms.Sized p q e = of_sizes p q (same_text (words_at sources unit a.span) (words_at sources other b.span) (sym e))
      by forms.Array forms.Array p q e = of_arrays p q (same_text (words_at sources unit a.span) (words_at sources other b.span) (sym e))
      by f g p q e = absurd (true≢false (sym e))

  known_differ : (f g : Flow) → flows_agree same f g ≡ false → DifferInType sources unit other f g
  known_differ f g e = grind (arith, data_types, adapter_types, or_parts, not_free, of_names, same_itself, of_sizes, bytes_decides, of_arrays)

  told_differ : (f g : Flow) → DifferInType sources unit other f g → flows_agree same f g ≡ false
  told_differ f g (data_types {a = a} {b = b} first second apart) =
      let neither_free = or_from (is_free (class_of_type a)) (is_free (class_of_type b)) (judged (class_of_type a) first) (judged (class_of_type b) second) in
      or_from (is_free (class_of_type a) || is_free (class_of_type b)) (same a b) neither_free (false_from_ne_true (same a b) (λ e. apart (known_same a b e)))
  told_differ f g (adapter_types {a = a} {b = b} apart) = false_from_ne_true (is_same a.name b.name) (λ e. apart (same_exact a.name b.name e))

-- the test of the types at both ends
module _ (sources : Sources) (here : Site) (n : NetworkTree) (own : here.own.instances ≡ first_ones (instances_in n)) (c : Connection) (from : NamesRight sources here c.sort Source c.source) (to : NamesRight sources here c.sort Destination c.destination) where
  agreed : targets_agree (same_at_ends sources (place_at sources here n) c) (target (place_at sources here n) c.sort c.source) (target (place_at sources here n) c.sort c.destination) ≡ flows_agree (same sources from.unit to.unit) from.port.flow to.port.flow
  agreed =
      let first = told_home sources here n own c.sort c.source.name c.source.port from.holder from.unit from.port from.names in
      let second = told_home sources here n own c.sort c.destination.name c.destination.port to.holder to.unit to.port to.names in
      (λ i. targets_agree (same_at_ends sources (place_at sources here n) c) (end_target sources here n own c.sort Source c.source from i) (end_target sources here n own c.sort Destination c.destination to i))
      ∙ (λ i. flows_agree (λ a b. same_type sources (first i) a (second i) b) from.port.flow to.port.flow)

abbrev pub fault_through : Connection → Fault
fault_through c = record { code = PassThrough; span = connection_span c }

-- the faults of a connection

module _ (sources : Sources) (unit : List ℕ) (o : ConnectionOf sources unit) where
  abbrev at : NetworkPlace
  at = place_at sources o.here o.network

  abbrev named_source : Target
  named_source = target at o.connection.sort o.connection.source

  abbrev named_destination : Target
  named_destination = target at o.connection.sort o.connection.destination

  abbrev both_right : Bool
  both_right = is_right Source named_source && is_right Destination named_destination

  abbrev agree : Bool
  agree = targets_agree (same_at_ends sources at o.connection) named_source named_destination

  own : o.here.own.instances ≡ first_ones (instances_in o.network)
  own = own_instances sources unit o.here o.network o.stands

  pub type_found : (f : Fault) → Contains (joined_types sources at o.connection) f → Finds sources unit f
  type_found f h =
      let test = in_where (both_right && not agree) (fault_of DataType o.connection.destination) f h in
      let tests = and_parts both_right (not agree) test.0 in
      let sides = and_parts (is_right Source named_source) (is_right Destination named_destination) tests.0 in
      let from = known_end sources o.here o.network own o.connection.sort Source o.connection.source sides.0 in
      let to = known_end sources o.here o.network own o.connection.sort Destination o.connection.destination sides.1 in
      let differ = known_differ sources from.unit to.unit from.port.flow to.port.flow (sym (agreed sources o.here o.network own o.connection from to) ∙ not_true agree tests.1) in
      subst (Finds sources unit) test.1 (record { of = o; from = from; to = to; differ = differ; place = end_place o.connection.destination })

  pub type_reported : (from : NamesRight sources o.here o.connection.sort Source o.connection.source) (to : NamesRight sources o.here o.connection.sort Destination o.connection.destination) → DifferInType sources from.unit to.unit from.port.flow to.port.flow → Contains (joined_types sources at o.connection) (fault_of DataType o.connection.destination)
  type_reported from to differ =
      let sides = and_from (is_right Source named_source) (is_right Destination named_destination) (told_end sources o.here o.network own o.connection.sort Source o.connection.source from) (told_end sources o.here o.network own o.connection.sort Destination o.connection.destination to) in
      where_passes (both_right && not agree) (fault_of DataType o.connection.destination) (and_from both_right (not agree) sides (ap not (agreed sources o.here o.network own o.connection from to ∙ told_differ sources from.unit to.unit from.port.flow to.port.flow differ)))

  abbrev own_source : Bool
  own_source = is_own_port Source named_source

  abbrev own_destination : Bool
  own_destination = is_own_port Destination named_destination

  pub pass_found : (f : Fault) → Contains (at_both at o.connection) f → Finds sources unit f
  pass_found f h = by o.here.kind refl h
    where
      by : (kind : UnitKind) → o.here.kind ≡ kind → Contains (pass_through_faults kind o.connection named_source named_destination) f → Finds sources unit f
      by kinds.Subapplication k h =
          let test = in_where (own_source && own_destination) (fault_through o.connection) f h in
          let both = and_parts own_source own_destination test.0 in
          let from = known_own sources o.here o.network own o.connection.sort Source o.connection.source both.0 in
          let to = known_own sources o.here o.network own o.connection.sort Destination o.connection.destination both.1 in
          let starts = ap (λ (s : Span). s.start) (end_place o.connection.source) in
          let ends = ap (λ (s : Span). s.end) (end_place o.connection.destination) in
          subst (Finds sources unit) test.1
          (record { of = o; in_subapplication = k; from = from.0; to = to.0; own_source = from.1; own_destination = to.1; starts = starts; ends = ends })
      by kind k h = absurd (contains_nothing f h)

  pub pass_reported : (from : NamesRight sources o.here o.connection.sort Source o.connection.source) (to : NamesRight sources o.here o.connection.sort Destination o.connection.destination) → o.here.kind ≡ kinds.Subapplication → from.holder ≡ Own → to.holder ≡ Own → Contains (connection_faults at o.connection) (fault_through o.connection)
  pass_reported from to kind from_own to_own =
      let both = and_from own_source own_destination (told_own sources o.here o.network own o.connection.sort Source o.connection.source from from_own) (told_own sources o.here o.network own o.connection.sort Destination o.connection.destination to to_own) in
      grind (arith, where_passes)

-- ends that name no port, or one of the wrong side

module _ (sources : Sources) (unit : List ℕ) (o : EndOf sources unit) where
  abbrev named : Target
  named = target (at sources unit o.joined) o.connection.sort o.end

  pub end_found : (f : Fault) → Contains (end_faults o.position o.end named) f → Finds sources unit f
  end_found f h = by named refl (is_target sources o.here o.network (own sources unit o.joined) o.connection.sort o.end.name o.end.port) h
    where
      by : (t : Target) → named ≡ t → IsTarget sources o.here o.connection.sort o.end.name o.end.port t → Contains (end_faults o.position o.end t) f → Finds sources unit f
      by t e is_unknown h =
          let unknown = unknown_names sources o.here o.network (own sources unit o.joined) o.connection.sort o.end.name o.end.port e in
          subst (Finds sources unit) (contains_single (fault_of PortUnknown o.end) f h) (record { of = o; unknown = unknown.0; judged = unknown.1; place = end_place o.end })
      by t e (is_not_judged q) h = absurd (contains_nothing f h)
      by t e (is_found {holder = holder} {p = port} home names) h =
          let fails = in_unless (same_side port.side (right_side o.position holder)) (fault_of PortSide o.end) f h in
          subst (Finds sources unit) fails.1
          (record { of = o; holder = holder; home = home; port = port; names = names; wrong = λ right. true≢false (sym (told_right o.position holder port.side right) ∙ fails.0); place = end_place o.end })

  -- and the other way
  pub end_reported : {span : Span} (code : Code) (t : Target) → span ≡ place_of o.end → named ≡ t → Contains (end_faults o.position o.end t) (fault_of code o.end) → Contains (net_faults_of sources unit) (record { code = code; span = span })
  end_reported code t place e h =
      connection_reported sources unit o.joined (place ∙ sym (end_place o.end))
      (Contains-append_left (at_source (at sources unit o.joined) o.connection ++ at_destination (at sources unit o.joined) o.connection) (at_both (at sources unit o.joined) o.connection) it (by o.position o.end o.is_end (subst (λ (u : Target). Contains (end_faults o.position o.end u) it) (sym e) h)))
    where
      it : Fault
      it = fault_of code o.end

      by : (position : Position) (end : End) → IsEndOf o.connection position end → Contains (end_faults position end (target (at sources unit o.joined) o.connection.sort end)) it → Contains (at_source (at sources unit o.joined) o.connection ++ at_destination (at sources unit o.joined) o.connection) it
      by Source end source h = Contains-append_left (at_source (at sources unit o.joined) o.connection) (at_destination (at sources unit o.joined) o.connection) it h
      by Destination end destination h = Contains-append_right (at_source (at sources unit o.joined) o.connection) (at_destination (at sources unit o.joined) o.connection) it h
