-- Ends that occur twice, by what the list of faults has.
use Rattle.fb_laws.proofs.Common.{arith, ◌≡◌, ℕ, List, [], ◌∷◌, ◌++◌, map, ◌⊎◌, inl, inr, refl, sym, ap, ◌∙◌, subst, Contains, flat_map, Contains-append_left, Contains-append_right, Contains-append_cases, Span, NetworkTree, Connection, End, Sort, Sources, Code, SecondAdapter, SecondSource, Fault, ComesThrough, contains_cases, contains_flat_map, contains_here, contains_later, contains_nothing, contains_single, origin_in_flat_map, Position, Source, Destination, Path, fault_at_path, repeated_faults, adapter_ends, data_destination, end_path, path_named, second_adapters, second_sources, HaveSameNames, IsEndOf, IsNetworkOf, Site, place_of, source, destination, HasSecondAdapter, HasSecondSource, IsTaken, by_earlier, by_source, option_map, ◌↔◌}
use Rattle.fb_laws.proofs.{Lists.{iff, nothing_split, split_through, through_split}, NetworkLemmas.{Finds, end_place, fault_at_end}, RepeatedPaths.{repeat_origin, repeat_reported}}
use Rattle.fb_tree.specs.declared.network.Sort.TheVariants as sorts

-- ends of connections

abbrev names_of : End → Path
names_of e = path_named e.name e.port

same_ends : (a b : End) → names_of a ≡ names_of b ↔ HaveSameNames a b
same_ends a b = iff (λ e. grind (arith, option_map)) (λ e. grind (arith, option_map))

-- an end of those that each connection has, with one of the same names before it
data IsSecond (f : Connection → List End) (connections : List Connection) (e : End) : Type 0 where
  second : (earlier later : List Connection) (again : Connection) (inside rest : List End) (other : End)
      → connections ≡ earlier ++ again ∷ later → f again ≡ inside ++ e ∷ rest
      → HaveSameNames other e → ComesThrough f earlier other ⊎ Contains inside other → IsSecond f connections e

path_fault : (code : Code) (e : End) → fault_at_path code (end_path e) ≡ fault_at_end code e
path_fault code e = λ i. record { code = code; span = end_place e i }

taken_in : (f : Connection → List End) (earlier : List Connection) (inside : List End) (other : End) → Contains (flat_map f earlier ++ inside) other → ComesThrough f earlier other ⊎ Contains inside other
taken_in f earlier inside other c = elim (Contains-append_cases (flat_map f earlier) inside other c) [ inl h ↦ inl (origin_in_flat_map f earlier other h) | inr h ↦ inr h ]

second_origin : (code : Code) (f : Connection → List End) (connections : List Connection) (fault : Fault) → Contains (repeated_faults code (map end_path (flat_map f connections))) fault → (e : End) × IsSecond f connections e × (fault_at_end code e ≡ fault)
second_origin code f connections fault c =
    let e = repeat_origin end_path (flat_map f connections) code fault c in
    let t = split_through f connections e.before e.after e.item e.split in
    let taken = taken_in f t.earlier t.inside e.other (subst (λ (l : List End). Contains l e.other) t.passed e.seen) in
    (e.item, second t.earlier t.later t.origin t.inside t.rest e.other t.split t.parts ((same_ends e.other e.item).0 e.same) taken, sym (path_fault code e.item) ∙ e.is)

second_reported : (code : Code) (f : Connection → List End) (connections : List Connection) (e : End) → IsSecond f connections e → Contains (repeated_faults code (map end_path (flat_map f connections))) (fault_at_end code e)
second_reported code f connections e (second earlier later again inside rest other listed parts same taken) =
    let split = ap (flat_map f) listed ∙ through_split f earlier later again inside rest e parts in
    let seen = repeat_reported end_path code (flat_map f connections) (flat_map f earlier ++ inside) (rest ++ flat_map f later) e other split (among taken) ((same_ends other e).1 same) in
    subst (λ (g : Fault). Contains (repeated_faults code (map end_path (flat_map f connections))) g) (path_fault code e) seen
  where
    among : ComesThrough f earlier other ⊎ Contains inside other → Contains (flat_map f earlier ++ inside) other
    among (inl o) = Contains-append_left (flat_map f earlier) inside other (contains_flat_map f earlier o.origin other o.among o.has)
    among (inr c) = Contains-append_right (flat_map f earlier) inside other c

-- destinations of data

abbrev destinations : Connection → List End
destinations c = data_destination c.sort c.destination

data_parts : (sort : Sort) (d : End) (inside rest : List End) (e : End) → data_destination sort d ≡ inside ++ e ∷ rest → (sort ≡ sorts.Data) × (d ≡ e) × (inside ≡ [])
data_parts sorts.Data d [] rest e p = (refl, cc, refl)
data_parts sorts.Data d (x ∷ inside) rest e p = let tails : [] ≡ inside ++ e ∷ rest = cc in absurd (nothing_split inside e rest tails)
data_parts sort d inside rest e p = absurd (nothing_split inside e rest p)

data_is : (sort : Sort) (d : End) → sort ≡ sorts.Data → data_destination sort d ≡ d ∷ []
data_is sort d e = ap (λ s. data_destination s d) e

module _ (sources : Sources) (unit : List ℕ) (here : Site) (n : NetworkTree) (stands : IsNetworkOf sources unit here n) where
  pub sources_found : (f : Fault) → Contains (second_sources n.connections) f → Finds sources unit f
  sources_found f c = let s = second_origin SecondSource destinations n.connections f c in subst (Finds sources unit) s.2 (grind (arith, data_parts, contains_single, contains_nothing))

pub source_reported : {sources : Sources} {unit : List ℕ} {span : Span} (h : HasSecondSource sources unit span) → Contains (second_sources h.network.connections) (fault_at_end SecondSource h.again.destination)
source_reported h =
    let has = subst (λ (l : List End). Contains l h.first.destination) (sym (data_is h.first.sort h.first.destination h.first_of_data)) (contains_here h.first.destination []) in
    second_reported SecondSource destinations h.network.connections h.again.destination
    (second h.before h.after h.again [] [] h.first.destination h.listed (data_is h.again.sort h.again.destination h.of_data) h.same (inl (record { origin = h.first; among = h.earlier; has = has })))

-- ends of adapter connections

abbrev both_ends : Connection → List End
both_ends c = adapter_ends c.sort c.source c.destination

-- an end in the list of both, by what is before it
data IsPart (s d : End) (inside : List End) (e : End) : Type 0 where
  at_source : inside ≡ [] → s ≡ e → IsPart s d inside e
  at_destination : inside ≡ s ∷ [] → d ≡ e → IsPart s d inside e

adapter_parts : (sort : Sort) (s d : End) (inside rest : List End) (e : End) → adapter_ends sort s d ≡ inside ++ e ∷ rest → (sort ≡ sorts.Adapter) × IsPart s d inside e
adapter_parts sorts.Adapter s d [] rest e p = (refl, at_source refl cc)
adapter_parts sorts.Adapter s d (x ∷ []) rest e p = let first : x ≡ s = cc in (refl, at_destination (ap (λ y. y ∷ []) first) cc)
adapter_parts sorts.Adapter s d (x ∷ y ∷ inside) rest e p = let tails : [] ≡ inside ++ e ∷ rest = cc in absurd (nothing_split inside e rest tails)
adapter_parts sort s d inside rest e p = absurd (nothing_split inside e rest p)

-- an end of an adapter connection
record IsAdapterEnd (c : Connection) (e : End) : Type 0 where
  of_adapter : c.sort ≡ sorts.Adapter
  position : Position
  is_end : IsEndOf c position e

is_source : (c : Connection) (e : End) → c.source ≡ e → IsEndOf c Source e
is_source c e same = subst (IsEndOf c Source) same source

is_destination : (c : Connection) (e : End) → c.destination ≡ e → IsEndOf c Destination e
is_destination c e same = subst (IsEndOf c Destination) same destination

in_both : (c : Connection) (e : End) → Contains (both_ends c) e → IsAdapterEnd c e
in_both c e h = grind (arith, contains_cases, contains_single, contains_nothing, is_source, is_destination)

both_is : (c : Connection) → c.sort ≡ sorts.Adapter → both_ends c ≡ c.source ∷ c.destination ∷ []
both_is c e = ap (λ s. adapter_ends s c.source c.destination) e

both_have : (c : Connection) (position : Position) (e : End) → c.sort ≡ sorts.Adapter → IsEndOf c position e → Contains (both_ends c) e
both_have c position e is end = grind (arith, both_is, contains_here, contains_later)

-- what is around an end in the list of both
around : (c : Connection) (position : Position) (e : End) → IsEndOf c position e → (inside : List End) × (rest : List End) × (c.source ∷ c.destination ∷ [] ≡ inside ++ e ∷ rest)
around c Source e source = ([], c.destination ∷ [], refl)
around c Destination e destination = (c.source ∷ [], [], refl)

module _ (sources : Sources) (unit : List ℕ) (here : Site) (n : NetworkTree) (stands : IsNetworkOf sources unit here n) where
  made : (earlier later : List Connection) (again : Connection) (e : End) (position : Position) → n.connections ≡ earlier ++ again ∷ later → again.sort ≡ sorts.Adapter → IsEndOf again position e → IsTaken earlier again position e → HasSecondAdapter sources unit (place_of e)
  made earlier later again e position listed sort end taken = grind arith

  position_of : (c : Connection) (inside : List End) (e : End) → IsPart c.source c.destination inside e → (position : Position) × IsEndOf c position e
  position_of c inside e part = grind (arith, is_source, is_destination)

  -- the source of its own connection
  own : (earlier : List Connection) (c : Connection) (inside : List End) (e other : End) → IsPart c.source c.destination inside e → Contains inside other → HaveSameNames other e → (position : Position) × IsEndOf c position e × IsTaken earlier c position e
  own earlier c inside e other part h names = grind (arith, contains_nothing, contains_single, is_destination, by_source)

  second_adapter : (e : End) → IsSecond both_ends n.connections e → HasSecondAdapter sources unit (place_of e)
  second_adapter e (second earlier later again inside rest other listed parts same (inl o)) =
      let part = adapter_parts again.sort again.source again.destination inside rest e parts in
      let at = position_of again inside e part.1 in
      let first = in_both o.origin other o.has in
      made earlier later again e at.0 listed part.0 at.1 (by_earlier o.origin first.position other o.among first.of_adapter first.is_end same)
  second_adapter e (second earlier later again inside rest other listed parts same (inr c)) =
      let part = adapter_parts again.sort again.source again.destination inside rest e parts in
      let at = own earlier again inside e other part.1 c same in
      made earlier later again e at.0 listed part.0 at.1 at.2

  pub adapters_found : (f : Fault) → Contains (second_adapters n.connections) f → Finds sources unit f
  adapters_found f c = let s = second_origin SecondAdapter both_ends n.connections f c in subst (Finds sources unit) s.2 (second_adapter s.0 s.1)

taken_second : (connections before after : List Connection) (c : Connection) (position : Position) (e : End) → connections ≡ before ++ c ∷ after → c.sort ≡ sorts.Adapter → IsEndOf c position e → IsTaken before c position e → IsSecond both_ends connections e
taken_second connections before after c position e listed sort end (by_earlier first other taken among first_sort first_end same) =
    let parts = around c position e end in
    second before after c parts.0 parts.1 taken listed (both_is c sort ∙ parts.2) same (inl (record { origin = first; among = among; has = both_have first other taken first_sort first_end }))
taken_second connections before after c position e listed sort end (by_source same) = second before after c (c.source ∷ []) [] c.source listed (both_is c sort) same (inr (contains_here c.source []))

pub adapter_reported : {sources : Sources} {unit : List ℕ} {span : Span} (h : HasSecondAdapter sources unit span) → Contains (second_adapters h.network.connections) (fault_at_end SecondAdapter h.end)
adapter_reported h = second_reported SecondAdapter both_ends h.network.connections h.end (taken_second h.network.connections h.before h.after h.again h.position h.end h.listed h.of_adapter h.is_end h.taken)
