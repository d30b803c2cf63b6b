-- References that begin at no variable, and further names that are no fields, by what the list of faults has.
use Rattle.fb_laws.proofs.Common.{arith, ◌≡◌, false, ◌++◌, Some, sym, ap, subst, Span, TypeTree, block_type, ReferenceTree, tree_at, MemberUnknown, VariableUnknown, Fault, Demand, names_field, names_variable, is_met, names_of_type, names_span, HasUnknownMember, HasUnknownVariable, MembersAreKnown, VariablesAreKnown, alone, subscripted, with_second}
use Rattle.fb_laws.proofs.{ReferentLemmas.{failing, is_judged, is_unknown, lost, none_begins}, UnitDemands.{DemandOf, named, field, reported, unmet}, Lists.{iff}}
use Rattle.fb_expr.specs.Demands.{fault_of}
use Rattle.fb_laws.specs.Places.{BeginsAt}

-- where a reference begins

begins_there : (r : ReferenceTree) → BeginsAt r (names_span r)
begins_there r = grind (arith, alone, subscripted, with_second)

told_begins : (r : ReferenceTree) (span : Span) → BeginsAt r span → span ≡ names_span r
told_begins r span begins = grind arith

-- each code by the demands that have it

pub known : VariablesAreKnown
known sources unit span =
    iff (λ c. let u = unmet sources unit it c in by_demand u.declared u.of_block u.fails u.is)
    (λ h.
    let whole = told_begins h.reference span h.place in
    let of_block = named h.reference h.named in
    let fails = is_unknown sources unit h.block h.declared h.reference h.unknown h.judged in
    reported sources unit it (record { block = h.block; declared = h.declared; demand = names_variable h.reference; of_block = of_block; fails = fails; is = λ i. record { code = VariableUnknown; span = whole i } }))
  where
    it : Fault
    it = record { code = VariableUnknown; span = span }

    by_demand : {d : TypeTree} {demand : Demand} → tree_at sources unit ≡ Some (block_type d) → DemandOf sources d demand → is_met (names_of_type sources unit d) demand ≡ false → it ≡ fault_of demand → HasUnknownVariable sources unit span
    by_demand {d = d} declared (named r stands) fails is =
        let place = subst (BeginsAt r) (sym (ap (λ (f : Fault). f.span) is)) (begins_there r) in
        search (none_begins, is_judged)
    by_demand declared of fails is = let code = ap (λ (f : Fault). f.code) is in absurd (let no : ⊥ = cc in no)

pub members : MembersAreKnown
members sources unit span =
    iff (λ c. let u = unmet sources unit it c in by_demand u.declared u.of_block u.fails u.is)
    (λ h.
    let f = failing sources unit h.block h.declared h.reference h.before h.member h.others h.used h.subscripted h.begins h.parted h.leads h.judged h.none in
    let of_block = field h.reference h.subscripts (f.0 ++ h.before) h.member h.others h.written f.1 in
    reported sources unit it (record { block = h.block; declared = h.declared; demand = names_field h.reference (f.0 ++ h.before) h.member; of_block = of_block; fails = f.2; is = λ i. record { code = MemberUnknown; span = h.place i } }))
  where
    it : Fault
    it = record { code = MemberUnknown; span = span }

    by_demand : {d : TypeTree} {demand : Demand} → tree_at sources unit ≡ Some (block_type d) → DemandOf sources d demand → is_met (names_of_type sources unit d) demand ≡ false → it ≡ fault_of demand → HasUnknownMember sources unit span
    by_demand {d = d} declared (field r subscripts before m others w parted) fails is =
        subst (HasUnknownMember sources unit) (sym (ap (λ (f : Fault). f.span) is)) (lost sources unit d declared r subscripts w m others before parted fails)
    by_demand declared of fails is = let code = ap (λ (f : Fault). f.code) is in absurd (let no : ⊥ = cc in no)
