-- The codes of each part of the check, the faults of a unit by its parts, and units whose text is broken, absent or whole.
use Rattle.fb_laws.proofs.Common.{arith, ℕ, List, sym, subst, Span, Sources, Code, MappedTwice, NameDiffers, PortUnknown, StateUnknown, Fault, Demand, code_of_demand, contains_nothing, IsCodeOf, Declarations, Charts, Networks, Mappings, PartsHaveOwnCodes, other_name, duplicate, mixed_kind, unknown_type, wrong_kind, unknown_with, initial_value, recursive_structure, unknown_variable, unknown_member, class, unknown_state, unknown_event, unknown_algorithm, unknown_port, wrong_side, other_type, second_source, second_adapter, passage, unknown_parameter, parameter_value, second_mapping, lost_mapping, ◌≡◌, ◌≢◌, [], ◌∷◌, Some, None, ◌⊎◌, inl, inr, refl, ap, ◌∙◌, Contains, get, option_and_then, none-some, BrokenAt, body_of, tree_at, tree_in, tree_of, iface_faults_of, Syntax, EventUnknown, AlgorithmUnknown, VariableUnknown, PortSide, DataType, SecondSource, SecondAdapter, PassThrough, ParameterUnknown, Literal, NoSuchResource, MemberUnknown, expr_faults_of, ecc_faults_of, net_faults_of, mapping_faults_of, faults_of, syntax_faults_of, text_faults, contains_single, in_written, those_reported, CodesAreOfTheirParts, ConstantsAreOfTwoParts, HasPart, IsOfConstants, PartsHaveAllOtherCodes, PartsShareOneCode, WholeUnitsHaveFaultsOfParts, faults_by, of_constant, BodyTree, IsBody, contains_here, broken_alone, told, IsOfPart, AbsentUnitsHaveNoFaults, BrokenTextsAreReported, BrokenTextsAreReportedAlone, IsBroken, WholeTextsAreNotReported, broken_at}
use Rattle.fb_laws.proofs.{NetworkLemmas.{Has}, NetworkRows.{found}, UnitDemands.{unmet}, Lists.{in_joined, of_either, iff}}
use Rattle.fb_laws.specs.UnitParts.{Expressions, Part}
use Rattle.fb_deploy.specs.Iface.declared.code.Code.TheVariants.{Class}
use Rattle.fb_deploy.proofs.Parse.Bodies.{one}
use Rattle.fb_laws.proofs.ChartRows as charts
use Rattle.fb_laws.proofs.DeclarationRows as declarations
use Rattle.fb_laws.proofs.MappingRows as mappings

nothing : {A : Type 0} → ⊥ → A
nothing h = absurd h

-- the part of each code
pub ruleset codes = (other_name, duplicate, mixed_kind, unknown_type, wrong_kind, unknown_with, initial_value, recursive_structure, unknown_variable, unknown_member, class, unknown_state, unknown_event, unknown_algorithm, unknown_port, wrong_side, other_type, second_source, second_adapter, passage, unknown_parameter, parameter_value, second_mapping, lost_mapping)

-- or no code
ruleset codes_or_none = (codes, nothing, contains_nothing)

module _ (sources : Sources) (unit : List ℕ) (span : Span) where
  declared_code : (code : Code) → declarations.Has code sources unit span → IsCodeOf Declarations code
  declared_code NameDiffers h = other_name
  declared_code code h = search codes_or_none

  chart_code : (code : Code) → charts.Has code sources unit span → IsCodeOf Charts code
  chart_code StateUnknown h = unknown_state
  chart_code code h = search codes_or_none

  mapping_code : (code : Code) → mappings.Has code sources unit span → IsCodeOf Mappings code
  mapping_code MappedTwice h = second_mapping
  mapping_code code h = search codes_or_none

  network_code : (code : Code) → Has code sources unit span → IsCodeOf Networks code
  network_code PortUnknown h = unknown_port
  network_code code h = search codes_or_none

pub own_codes : PartsHaveOwnCodes
own_codes Declarations sources unit f c = declared_code sources unit f.span f.code (declarations.found sources unit f c)
own_codes Expressions sources unit f c = let u = unmet sources unit f c in subst (λ (g : Fault). IsCodeOf Expressions g.code) (sym u.is) (grind (arith, unknown_variable, unknown_member, class))
own_codes Charts sources unit f c = chart_code sources unit f.span f.code (charts.found sources unit f c)
own_codes Networks sources unit f c = network_code sources unit f.span f.code (found sources unit f c)
own_codes Mappings sources unit f c = mapping_code sources unit f.span f.code (mappings.found sources unit f c)

-- the parts of a code

-- the part that has a code, for that of constants the first
abbrev own_part : Code → Part
own_part VariableUnknown = Expressions
own_part MemberUnknown = Expressions
own_part Class = Expressions
own_part StateUnknown = Charts
own_part EventUnknown = Charts
own_part AlgorithmUnknown = Charts
own_part PortUnknown = Networks
own_part PortSide = Networks
own_part DataType = Networks
own_part SecondSource = Networks
own_part SecondAdapter = Networks
own_part PassThrough = Networks
own_part ParameterUnknown = Networks
own_part MappedTwice = Mappings
own_part NoSuchResource = Mappings
own_part code = Declarations

abbrev IsHome : Part → Code → Type 0
IsHome part code = (part ≡ own_part code) ⊎ ((part ≡ Networks) × (code ≡ Literal))

home_of : (part : Part) (code : Code) → IsCodeOf part code → IsHome part code
home_of part code is = grind arith

pub one_shared : PartsShareOneCode
one_shared = grind (arith, home_of)

-- a code of a part is none of texts
pub no_text_code : (part : Part) (code : Code) → IsCodeOf part code → code ≡ Syntax → ⊥
no_text_code part code c e = grind arith

-- the list that has a code
listed_code : (code : Code) → code ≢ Syntax → HasPart code
listed_code code other = grind (arith, codes)

pub all_other_codes : PartsHaveAllOtherCodes
all_other_codes code = (listed_code code, λ p. no_text_code p.part code p.is)

-- faults of texts

pub record TextOrigin (sources : Sources) (unit : List ℕ) (f : Fault) : Type 0 where
  pub text : List ℕ
  pub present : get sources unit ≡ Some text
  pub broken : body_of text ≡ BrokenAt f.span
  pub code : f.code ≡ Syntax

-- the parts of what is reported

pub data IsReported (sources : Sources) (unit : List ℕ) (f : Fault) : Type 0 where
  of_text : TextOrigin sources unit f → IsReported sources unit f
  of_part : (part : Part) → Contains (faults_by part sources unit) f → IsReported sources unit f

module _ (sources : Sources) (unit : List ℕ) (f : Fault) where
  -- the faults of the parts, in the order of the check
  abbrev of_parts : List (List Fault)
  of_parts = iface_faults_of sources unit ∷ expr_faults_of sources unit ∷ ecc_faults_of sources unit ∷ net_faults_of sources unit ∷ mapping_faults_of sources unit ∷ []

  pub is_found : Contains (faults_of sources unit) f → IsReported sources unit f
  is_found c =
      of_either {P = IsReported sources unit} _ _ (of_either _ _ (of_either _ _ (of_either _ _ (of_either _ _ (λ g h. of_text (grind (arith, in_written, get, contains_nothing, contains_single))) (λ g. of_part Declarations)) (λ g. of_part Expressions)) (λ g. of_part Charts)) (λ g. of_part Networks)) (λ g. of_part Mappings)
      f ((those_reported sources unit f).0 c)

  part_found : (part : Part) → Contains (faults_by part sources unit) f → Contains (faults_of sources unit) f
  part_found Declarations c = (those_reported sources unit f).1 (in_joined (syntax_faults_of sources unit) of_parts 1 _ f refl c)
  part_found Expressions c = (those_reported sources unit f).1 (in_joined (syntax_faults_of sources unit) of_parts 2 _ f refl c)
  part_found Charts c = (those_reported sources unit f).1 (in_joined (syntax_faults_of sources unit) of_parts 3 _ f refl c)
  part_found Networks c = (those_reported sources unit f).1 (in_joined (syntax_faults_of sources unit) of_parts 4 _ f refl c)
  part_found Mappings c = (those_reported sources unit f).1 (in_joined (syntax_faults_of sources unit) of_parts 5 _ f refl c)

-- units that are whole

pub no_tree : (sources : Sources) (unit : List ℕ) (f : Fault) → TextOrigin sources unit f → tree_at sources unit ≡ None
no_tree sources unit f o = ap (option_and_then tree_of) o.present ∙ ap tree_in o.broken

pub whole_units : WholeUnitsHaveFaultsOfParts
whole_units sources unit decl there f = (λ c. (elim (is_found sources unit f c) [ of_text o ↦ absurd (none-some decl (sym (no_tree sources unit f o) ∙ there)) | of_part part h ↦ record { part = part; reported = h } ]), λ o. part_found sources unit f o.part o.reported)

pub of_their_parts : CodesAreOfTheirParts
of_their_parts part sources unit f code other = (λ c. (elim (is_found sources unit f c) [ of_text o ↦ absurd (no_text_code part f.code code o.code) | of_part q h ↦ subst (λ (p : Part). Contains (faults_by p sources unit) f) (same q (home_of part f.code code) (home_of q f.code (own_codes q sources unit f h))) h ]), λ h. part_found sources unit f part h)
  where
    same : (q : Part) → IsHome part f.code → IsHome q f.code → q ≡ part
    same q first second = grind arith

pub of_two_parts : ConstantsAreOfTwoParts
of_two_parts sources unit span = (λ c. by (is_found sources unit it c), λ h. elim h [ inl c ↦ part_found sources unit it Declarations c | inr c ↦ part_found sources unit it Networks c ])
  where
    it : Fault
    it = of_constant span

    in_one : (q : Part) → Contains (faults_by q sources unit) it → IsCodeOf q Literal → Contains (iface_faults_of sources unit) it ⊎ Contains (net_faults_of sources unit) it
    in_one q h initial_value = inl h
    in_one q h parameter_value = inr h

    by : IsReported sources unit it → Contains (iface_faults_of sources unit) it ⊎ Contains (net_faults_of sources unit) it
    by (of_text o) = absurd (let same : Literal ≡ Syntax = o.code in let no : ⊥ = cc in no)
    by (of_part q h) = in_one q h (own_codes q sources unit it h)

pub broken_reported_alone : BrokenTextsAreReportedAlone
broken_reported_alone sources unit span b = broken_alone sources unit b.text span b.present (sym (one b.text (BrokenAt span) b.broken))

pub broken_reported : BrokenTextsAreReported
broken_reported sources unit span =
    iff (λ c. (elim (is_found sources unit (broken_at span) c) [ of_text o ↦ record { text = o.text; present = o.present; broken = subst (λ (b : BodyTree). IsBody o.text b) o.broken (told o.text) } | of_part part h ↦ absurd (no_text_code part Syntax (own_codes part sources unit (broken_at span) h) refl) ]))
    (λ b. subst (λ (l : List Fault). Contains l (broken_at span)) (sym (broken_reported_alone sources unit span b)) (contains_here (broken_at span) []))

pub whole_not_reported : WholeTextsAreNotReported
whole_not_reported sources unit decl there f c = let o = (whole_units sources unit decl there f).0 c in no_text_code o.part f.code (own_codes o.part sources unit f o.reported)

-- an absent unit declares nothing
pub absent_clean : AbsentUnitsHaveNoFaults
absent_clean sources unit absent = search (option_and_then)
