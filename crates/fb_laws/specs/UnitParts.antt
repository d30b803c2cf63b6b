-- The parts of the check of a unit, the codes of each, and units whose text is broken, whole or absent.
use Rattle.fb_laws.specs.Common.{Span, DeclTree, Sources, tree_at, iface_faults_of, Syntax, NameDiffers, Duplicate, MixedKind, UnknownType, WrongKind, WithUnknown, StateUnknown, EventUnknown, AlgorithmUnknown, VariableUnknown, Class, PortUnknown, PortSide, DataType, SecondSource, SecondAdapter, PassThrough, ParameterUnknown, Literal, MappedTwice, NoSuchResource, MemberUnknown, StructRecursive, Fault, faults_of, BrokenAt, IsBody}
use Rattle.std.specs.{Prelude.{◌≡◌, ◌≢◌, ℕ, List, Some, Contains, ◌↔◌, ◌⊎◌, [], ◌∷◌, None}, FinMap.{get}}
use Rattle.fb_deploy.specs.{Iface.declared.code.Code.{Code}, Faults.Mappings.{mapping_faults_of}}
use Rattle.fb_expr.specs.Charts.{expr_faults_of}
use Rattle.fb_ecc.specs.Charts.{ecc_faults_of}
use Rattle.fb_netcheck.specs.Networks.{net_faults_of}

-- the parts of the check of a unit whose text is not broken
pub data Part : Type 0 where
  Declarations : Part
  Expressions : Part
  Charts : Part
  Networks : Part
  Mappings : Part

-- what each part reports
abbrev pub faults_by : Part → Sources → List ℕ → List Fault
faults_by Declarations sources unit = iface_faults_of sources unit
faults_by Expressions sources unit = expr_faults_of sources unit
faults_by Charts sources unit = ecc_faults_of sources unit
faults_by Networks sources unit = net_faults_of sources unit
faults_by Mappings sources unit = mapping_faults_of sources unit

-- the part reports the code at exactly these places of a unit
abbrev pub IsReportedWhere : Part → Code → (Sources → List ℕ → Span → Type 0) → Type 0
IsReportedWhere part code Has = (sources : Sources) (unit : List ℕ) (span : Span)
    → Contains (faults_by part sources unit) (record { code = code; span = span }) ↔ Has sources unit span

-- the codes of each part
pub data IsCodeOf : Part → Code → Type 0 where
  other_name : IsCodeOf Declarations NameDiffers
  duplicate : IsCodeOf Declarations Duplicate
  mixed_kind : IsCodeOf Declarations MixedKind
  unknown_type : IsCodeOf Declarations UnknownType
  wrong_kind : IsCodeOf Declarations WrongKind
  unknown_with : IsCodeOf Declarations WithUnknown
  initial_value : IsCodeOf Declarations Literal
  recursive_structure : IsCodeOf Declarations StructRecursive
  unknown_variable : IsCodeOf Expressions VariableUnknown
  unknown_member : IsCodeOf Expressions MemberUnknown
  class : IsCodeOf Expressions Class
  unknown_state : IsCodeOf Charts StateUnknown
  unknown_event : IsCodeOf Charts EventUnknown
  unknown_algorithm : IsCodeOf Charts AlgorithmUnknown
  unknown_port : IsCodeOf Networks PortUnknown
  wrong_side : IsCodeOf Networks PortSide
  other_type : IsCodeOf Networks DataType
  second_source : IsCodeOf Networks SecondSource
  second_adapter : IsCodeOf Networks SecondAdapter
  passage : IsCodeOf Networks PassThrough
  unknown_parameter : IsCodeOf Networks ParameterUnknown
  parameter_value : IsCodeOf Networks Literal
  second_mapping : IsCodeOf Mappings MappedTwice
  lost_mapping : IsCodeOf Mappings NoSuchResource

-- a part has the code
pub record HasPart (code : Code) : Type 0 where
  pub part : Part
  pub is : IsCodeOf part code

-- the parts have every code but that of broken texts
abbrev pub PartsHaveAllOtherCodes : Type 0
PartsHaveAllOtherCodes = (code : Code) → code ≢ Syntax ↔ HasPart code

-- what a part reports has one of its codes
abbrev pub PartsHaveOwnCodes : Type 0
PartsHaveOwnCodes = (part : Part) (sources : Sources) (unit : List ℕ) (fault : Fault)
    → Contains (faults_by part sources unit) fault → IsCodeOf part fault.code

-- the code of constants, in initial values and in parameters
abbrev pub IsOfConstants : Part → Part → Code → Type 0
IsOfConstants p q code = (code ≡ Literal)
    × (((p ≡ Declarations) × (q ≡ Networks)) ⊎ ((p ≡ Networks) × (q ≡ Declarations)))

-- two parts share that code alone
abbrev pub PartsShareOneCode : Type 0
PartsShareOneCode = (p q : Part) (code : Code) → p ≢ q → IsCodeOf p code → IsCodeOf q code
    → IsOfConstants p q code

-- a part reports the fault
pub record IsOfPart (sources : Sources) (unit : List ℕ) (fault : Fault) : Type 0 where
  pub part : Part
  pub reported : Contains (faults_by part sources unit) fault

-- a unit that is present and not broken has the faults of its parts, and no other
abbrev pub WholeUnitsHaveFaultsOfParts : Type 0
WholeUnitsHaveFaultsOfParts = (sources : Sources) (unit : List ℕ) (decl : DeclTree)
    → tree_at sources unit ≡ Some decl → (fault : Fault)
    → Contains (faults_of sources unit) fault ↔ IsOfPart sources unit fault

-- a code that a part has, other than Literal, is reported of a unit exactly where the part reports it
abbrev pub CodesAreOfTheirParts : Type 0
CodesAreOfTheirParts = (part : Part) (sources : Sources) (unit : List ℕ) (fault : Fault)
    → IsCodeOf part fault.code → fault.code ≢ Literal
    → Contains (faults_of sources unit) fault ↔ Contains (faults_by part sources unit) fault

-- a fault of a constant
abbrev pub of_constant : Span → Fault
of_constant span = record { code = Literal; span = span }

-- the code of constants is reported of a unit where its declarations or its networks have it
abbrev pub ConstantsAreOfTwoParts : Type 0
ConstantsAreOfTwoParts = (sources : Sources) (unit : List ℕ) (span : Span)
    → Contains (faults_of sources unit) (of_constant span)
    ↔ (Contains (iface_faults_of sources unit) (of_constant span) ⊎ Contains (net_faults_of sources unit) (of_constant span))

-- the unit is present, its text spells no declaration, and is broken at this place
pub record IsBroken (sources : Sources) (unit : List ℕ) (span : Span) : Type 0 where
  pub text : List ℕ
  pub present : get sources unit ≡ Some text
  pub broken : IsBody text (BrokenAt span)

abbrev pub broken_at : Span → Fault
broken_at span = record { code = Syntax; span = span }

-- the faults of a unit have the code of a broken text exactly where its text is broken
abbrev pub BrokenTextsAreReported : Type 0
BrokenTextsAreReported = (sources : Sources) (unit : List ℕ) (span : Span)
    → Contains (faults_of sources unit) (broken_at span) ↔ IsBroken sources unit span

-- a unit whose text is broken has this fault and no other
abbrev pub BrokenTextsAreReportedAlone : Type 0
BrokenTextsAreReportedAlone = (sources : Sources) (unit : List ℕ) (span : Span)
    → IsBroken sources unit span → faults_of sources unit ≡ broken_at span ∷ []

-- a unit that is present and not broken has no such fault
abbrev pub WholeTextsAreNotReported : Type 0
WholeTextsAreNotReported = (sources : Sources) (unit : List ℕ) (decl : DeclTree)
    → tree_at sources unit ≡ Some decl → (fault : Fault) → Contains (faults_of sources unit) fault
    → fault.code ≢ Syntax

-- a unit that is absent has no faults
abbrev pub AbsentUnitsHaveNoFaults : Type 0
AbsentUnitsHaveNoFaults = (sources : Sources) (unit : List ℕ) → get sources unit ≡ None
    → faults_of sources unit ≡ []
