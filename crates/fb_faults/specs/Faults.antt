-- All faults of a unit.
use Rattle.std.specs.{Prelude.{◌≡◌, ℕ, List, [], ◌∷◌, ◌++◌, Option, Some, Contains, ◌↔◌}, Option.{option_map_or}, FinMap.{get}}
use Rattle.std.specs.List.Sorted.{IsStrictlySortedBy}
use Rattle.fb_tree.specs.{Text.declared.token.Span.{Span}, Tree.{ChartTree, DeclTree, TypeTree}, declared.kinds.UnitKind.TheVariants.{Block}}
use Rattle.fb_netcheck.specs.{Parse.Body.{BodyTree, Whole, BrokenAt, body_of}, Library.Local.{Agree}, Library.Near.{near_of}}
use Rattle.fb_netcheck.specs.{Library.View.{Sources, tree_at, tree_in}, Iface.declared.code.Code.TheVariants.{Syntax}, Iface.declared.fault.Fault.{Fault}}
use Rattle.fb_netcheck.specs.{Iface.Fault.{fault_cmp, faults_in_order}, Iface.Declarations.{declaration_faults}, Iface.Fields.{fields_near}}
use Rattle.fb_netcheck.specs.{Settings.{NetworkPlace}, Networks.{network_faults, tree_faults, type_place}}
use Rattle.fb_expr.specs.{Charts.{expression_faults, faults_in_unit}, Names.{Names}}
use Rattle.fb_ecc.specs.Charts.{chart_faults, chart_faults_in}
use Rattle.fb_faults.specs.Mappings.{declared_mapping_faults}

abbrev pub body_faults : BodyTree → List Fault
body_faults (Whole decl) = []
body_faults (BrokenAt span) = record { code = Syntax; span = span } ∷ []

-- a broken text has one fault, in its place
abbrev pub text_faults : Option (List ℕ) → List Fault
text_faults text = option_map_or (λ t. body_faults (body_of t)) text []

abbrev pub syntax_faults_of : Sources → List ℕ → List Fault
syntax_faults_of sources unit = text_faults (get sources unit)

-- what the checks report of a declaration, after what is reported of its text
abbrev pub all_reported : Sources → List ℕ → List Fault → Option DeclTree → List Fault
all_reported sources unit syntax tree =
    syntax
    ++ declaration_faults sources unit tree
    ++ faults_in_unit sources unit tree
    ++ chart_faults_in sources tree
    ++ tree_faults sources unit tree
    ++ declared_mapping_faults tree

-- what the checks report of a unit
abbrev pub reported_of : Sources → List ℕ → List Fault
reported_of sources unit = all_reported sources unit (syntax_faults_of sources unit) (tree_at sources unit)

-- all faults of a unit, in order, each once
abbrev pub faults_of : Sources → List ℕ → List Fault
faults_of sources unit = faults_in_order (reported_of sources unit)

-- what the checks report of a unit whose text has this body
abbrev pub reported_in : Sources → List ℕ → BodyTree → List Fault
reported_in sources unit body = all_reported sources unit (body_faults body) (tree_in body)

-- what the names of expressions mean in a unit whose network is at this place
abbrev pub names_here : Sources → NetworkPlace → Names
names_here sources here = record { scope = here.scope; fields = fields_near sources here.unit }

-- what the checks of expressions and charts report of a chart, in a type whose network is at this place
abbrev pub chart_here : Sources → NetworkPlace → ChartTree → List Fault
chart_here sources here chart = expression_faults (names_here sources here) chart ++ chart_faults here.scope chart

-- what the checks of expressions, charts and networks report of a type whose network is at this place
abbrev pub faults_here : Sources → NetworkPlace → TypeTree → List Fault
faults_here sources here d =
    expression_faults (names_here sources here) d.chart ++ chart_faults here.scope d.chart ++ network_faults sources here d.network

-- what these checks report of a block type
abbrev pub block_faults : Sources → List ℕ → TypeTree → List Fault
block_faults sources unit d = faults_here sources (type_place sources unit Block d).0 d

-- the faults of a unit depend only on the texts of what is near it
abbrev pub FaultsAreLocal : Type 0
FaultsAreLocal = (a b : Sources) (unit : List ℕ) → Agree (near_of a unit) a b → faults_of a unit ≡ faults_of b unit

-- each fault is below those after it
abbrev pub FaultsAreInOrder : Type 0
FaultsAreInOrder = (sources : Sources) (unit : List ℕ) → IsStrictlySortedBy fault_cmp (faults_of sources unit)

-- the faults are what the checks report, and nothing else
abbrev pub FaultsAreThoseReported : Type 0
FaultsAreThoseReported = (sources : Sources) (unit : List ℕ) (fault : Fault) → Contains (faults_of sources unit) fault ↔ Contains (reported_of sources unit) fault

-- a broken text has no other fault
abbrev pub BrokenTextsHaveOneFault : Type 0
BrokenTextsHaveOneFault = (sources : Sources) (unit text : List ℕ) (span : Span) → get sources unit ≡ Some text → body_of text ≡ BrokenAt span → faults_of sources unit ≡ record { code = Syntax; span = span } ∷ []
