-- One token tells how to go on in the grammar of units.
use Rattle.std.proofs.Common.{◌≡◌, true, false, List, [], ◌∷◌, ◌++◌, refl, inl, inr}
use Rattle.fb_structured_text.specs.{Forms.Kind.{name_kinds}, Forms.declared.kind.Kind.{Kind}}
use Rattle.fb_structured_text.specs.Forms.declared.kind.Kind.TheVariants.{One, Point, OpenBracket, CloseBracket, Semicolon, Ampersand, And, FunctionBlock, EndFunctionBlock, Adapter, EndAdapter, Subapplication, EndSubapplication, System, EndSystem, TypeWord, Application, EndApplication, Device, Mappings, EventInput, EventOutput, VarInput, VarOutput, Var, Plugs, Sockets, Fbs, Subapps, EventConnections, DataConnections, AdapterConnections, EcStates, EcTransitions, Algorithm, Service}
use Rattle.fb_structured_text.specs.{Forms.Form.{Form, both, many, as_value}, Forms.Reading.{is_nullable, is_predictive, first, after, are_apart}}
use Rattle.fb_structured_text.specs.{Forms.Words.{key, before, behind, name}, Expression.{levels, expression}}
use Rattle.fb_tree.specs.Text.declared.name.NameUse.{NameUse}
use Rattle.fb_structured_text.proofs.{Forms.Forms.{among_left, among_right}, Forms.Shapes.{Closed, Shape, among_append, apart_within, closed_either}}
use Rattle.fb_structured_text.proofs.{ExpressionLevels.{expression_afters, shape-expression}, StatementLevels.{closed-statement}}
use Rattle.fb_sections.specs.{Skipped.{all_kinds, others, skipped}, Network.{end}, Sections.{optional_name}, SystemParts.{optional_semicolon}}
use Rattle.fb_sections.proofs.Predictive.{closed_events, closed_data_variables, closed_internal_variables, closed_fields, closed_plugs, closed_sockets, closed_blocks, closed_subapplications, closed_connections, closed_states, closed_service, closed_mappings, closed_device}
use Rattle.fb_parse.specs.Chart.{bracketed, joined_test, optional_test, event_condition, condition, transition, transitions, optional_colon, structured_text, other_language, algorithm_body, algorithm}
use Rattle.fb_parse.specs.Grammar.{data_section, service_section, interface_section, network_section, chart_section, block_section, adapter_section, application_section, subapplication_section, block, adapter, subapplication, application, system_section, system, structure, unit}
use Rattle.fb_parse.specs.{declared.frame.Frame.{Frame}, Frames.{section_of}}
use Rattle.fb_parse.specs.declared.frame.Frame.TheVariants as frame

-- Transitions and algorithms

abbrev links : List Kind
links = Point ∷ OpenBracket ∷ Ampersand ∷ And ∷ []

abbrev condition_afters : List Kind
condition_afters = links ++ expression_afters

shape_condition : Shape condition (One ∷ OpenBracket ∷ name_kinds) condition_afters
unfolding condition event_condition optional_test joined_test bracketed end optional_name name
shape_condition =
    let e = shape-expression levels in
    let no_bracket = apart_within (after (expression levels)) expression_afters (CloseBracket ∷ []) e.after refl in
    record {
      predictive = rw (e.predictive, no_bracket) (refl {a = true});
      filled = refl;
      first = refl;
      after = rw e.filled (λ k h. elim (among_append links (after (expression levels)) k h) [
        | inl p ↦ among_left links expression_afters k p
        | inr p ↦ among_right links expression_afters k (e.after k p)
      ]);
    }

closed_transitions : Closed transitions (EcTransitions ∷ [])
unfolding transitions transition name
closed_transitions =
    let c = shape_condition in
    let no_semicolon = apart_within (after condition) condition_afters (Semicolon ∷ []) c.after refl in
    record { predictive = rw (c.predictive, c.filled, no_semicolon) (refl {a = true}); filled = refl; first = refl; after = refl }

closed_algorithm : Closed algorithm (Algorithm ∷ [])
unfolding algorithm algorithm_body structured_text other_language optional_colon skipped others all_kinds name
closed_algorithm =
    let s = closed-statement levels in
    record { predictive = rw (s.predictive, s.filled, s.first, s.after) (refl {a = true}); filled = refl; first = refl; after = refl }

-- Sections

closed_as : {A B : Type 0} (f : A → B) (x : Form A) (firsts : List Kind) → Closed x firsts → Closed (as_value f x) firsts
closed_as f x firsts c = record { predictive = c.predictive; filled = c.filled; first = c.first; after = c.after }

abbrev data_firsts : List Kind
data_firsts = EventInput ∷ EventOutput ∷ VarInput ∷ VarOutput ∷ []

closed_data_section : Closed data_section data_firsts
unfolding data_section
closed_data_section = closed_either _ _ (EventInput ∷ EventOutput ∷ []) (VarInput ∷ VarOutput ∷ []) (closed_as _ _ _ closed_events) (closed_as _ _ _ closed_data_variables) refl

closed_service_section : Closed service_section (Service ∷ [])
unfolding service_section
closed_service_section = closed_as _ _ _ closed_service

abbrev interface_firsts : List Kind
interface_firsts = data_firsts ++ Plugs ∷ Sockets ∷ []

closed_interface_section : Closed interface_section interface_firsts
unfolding interface_section
closed_interface_section =
    closed_either _ _ data_firsts (Plugs ∷ Sockets ∷ []) closed_data_section
    (closed_either _ _ (Plugs ∷ []) (Sockets ∷ []) (closed_as _ _ _ closed_plugs) (closed_as _ _ _ closed_sockets) refl) refl

abbrev network_firsts : List Kind
network_firsts = Fbs ∷ EventConnections ∷ DataConnections ∷ AdapterConnections ∷ []

closed_network_section : Closed network_section network_firsts
unfolding network_section
closed_network_section =
    closed_either _ _ (Fbs ∷ []) (EventConnections ∷ DataConnections ∷ AdapterConnections ∷ []) (closed_as _ _ _ closed_blocks) (closed_as _ _ _ closed_connections) refl

abbrev chart_firsts : List Kind
chart_firsts = EcStates ∷ EcTransitions ∷ Algorithm ∷ []

closed_chart_section : Closed chart_section chart_firsts
unfolding chart_section
closed_chart_section =
    closed_either _ _ (EcStates ∷ []) (EcTransitions ∷ Algorithm ∷ []) (closed_as _ _ _ closed_states)
    (closed_either _ _ (EcTransitions ∷ []) (Algorithm ∷ []) (closed_as _ _ _ closed_transitions) (closed_as _ _ _ closed_algorithm) refl) refl

abbrev block_firsts : List Kind
block_firsts = interface_firsts ++ Var ∷ network_firsts ++ chart_firsts ++ Service ∷ []

closed_block_section : Closed block_section block_firsts
unfolding block_section
closed_block_section =
    closed_either _ _ interface_firsts (Var ∷ network_firsts ++ chart_firsts ++ Service ∷ []) closed_interface_section
    (closed_either _ _ (Var ∷ []) (network_firsts ++ chart_firsts ++ Service ∷ []) (closed_as _ _ _ closed_internal_variables)
    (closed_either _ _ network_firsts (chart_firsts ++ Service ∷ []) closed_network_section
    (closed_either _ _ chart_firsts (Service ∷ []) closed_chart_section closed_service_section refl) refl) refl) refl

abbrev adapter_firsts : List Kind
adapter_firsts = data_firsts ++ Service ∷ []

closed_adapter_section : Closed adapter_section adapter_firsts
unfolding adapter_section
closed_adapter_section = closed_either _ _ data_firsts (Service ∷ []) closed_data_section closed_service_section refl

abbrev application_firsts : List Kind
application_firsts = network_firsts ++ Subapps ∷ []

closed_application_section : Closed application_section application_firsts
unfolding application_section
closed_application_section = closed_either _ _ network_firsts (Subapps ∷ []) closed_network_section (closed_as _ _ _ closed_subapplications) refl

abbrev subapplication_firsts : List Kind
subapplication_firsts = interface_firsts ++ application_firsts ++ Service ∷ []

closed_subapplication_section : Closed subapplication_section subapplication_firsts
unfolding subapplication_section
closed_subapplication_section =
    closed_either _ _ interface_firsts (application_firsts ++ Service ∷ []) closed_interface_section
    (closed_either _ _ application_firsts (Service ∷ []) closed_application_section closed_service_section refl) refl

-- Units

-- a word, a name, sections, and a word that begins none of them
closed_frame : {A B C : Type 0} (start end : Kind) (f : NameUse × B → C) (g : List A → B) (x : Form A) (firsts : List Kind) → Closed x firsts → are_apart (firsts ++ []) (end ∷ []) ≡ true
    → Closed (as_value f (behind (key start) (both name (before (as_value g (many x)) (key end))))) (start ∷ [])
unfolding name
closed_frame start end f g x firsts c apart = record { predictive = rw (c.predictive, c.filled, c.after, c.first, apart) refl; filled = refl; first = refl; after = refl }

closed_block : Closed block (FunctionBlock ∷ [])
unfolding block
closed_block = closed_frame FunctionBlock EndFunctionBlock _ _ _ block_firsts closed_block_section refl

closed_adapter : Closed adapter (Adapter ∷ [])
unfolding adapter
closed_adapter = closed_frame Adapter EndAdapter _ _ _ adapter_firsts closed_adapter_section refl

closed_subapplication : Closed subapplication (Subapplication ∷ [])
unfolding subapplication
closed_subapplication = closed_frame Subapplication EndSubapplication _ _ _ subapplication_firsts closed_subapplication_section refl

closed_application : Closed application (Application ∷ [])
unfolding application
closed_application = closed_frame Application EndApplication _ _ _ application_firsts closed_application_section refl

closed_system_section : Closed system_section (Application ∷ Device ∷ Mappings ∷ [])
unfolding system_section
closed_system_section =
    closed_either _ _ (Application ∷ []) (Device ∷ Mappings ∷ []) (closed_as _ _ _ closed_application)
    (closed_either _ _ (Device ∷ []) (Mappings ∷ []) (closed_as _ _ _ closed_device) (closed_as _ _ _ closed_mappings) refl) refl

closed_system : Closed system (System ∷ [])
unfolding system
closed_system = closed_frame System EndSystem _ _ _ (Application ∷ Device ∷ Mappings ∷ []) closed_system_section refl

closed_structure : Closed structure (TypeWord ∷ [])
unfolding structure optional_semicolon name
closed_structure =
    let c = closed_fields in
    record { predictive = rw (c.predictive, c.after) (refl {a = true}); filled = refl; first = refl; after = rw c.filled (refl {a = []}) }

closed_unit : Closed unit (FunctionBlock ∷ Adapter ∷ Subapplication ∷ System ∷ TypeWord ∷ [])
unfolding unit
closed_unit =
    closed_either _ _ (FunctionBlock ∷ []) (Adapter ∷ Subapplication ∷ System ∷ TypeWord ∷ []) (closed_as _ _ _ closed_block)
    (closed_either _ _ (Adapter ∷ []) (Subapplication ∷ System ∷ TypeWord ∷ []) (closed_as _ _ _ closed_adapter)
    (closed_either _ _ (Subapplication ∷ []) (System ∷ TypeWord ∷ []) (closed_as _ _ _ closed_subapplication)
    (closed_either _ _ (System ∷ []) (TypeWord ∷ []) (closed_as _ _ _ closed_system) (closed_as _ _ _ closed_structure) refl) refl) refl) refl

pub predictive_unit : is_predictive unit ≡ true
predictive_unit = let c = closed_unit in c.predictive

-- None of the forms that are read again and again is empty

pub transition_filled : is_nullable transition ≡ false
unfolding transition name
transition_filled = refl

pub system_section_filled : is_nullable system_section ≡ false
system_section_filled = let c = closed_system_section in c.filled

pub section_filled : (f : Frame) → is_nullable (section_of f) ≡ false
section_filled frame.Block = let c = closed_block_section in c.filled
section_filled frame.Adapter = let c = closed_adapter_section in c.filled
section_filled frame.Subapplication = let c = closed_subapplication_section in c.filled
section_filled frame.Application = let c = closed_application_section in c.filled

-- What begins the sections of each frame

pub block_sections_begin : first block_section ≡ block_firsts
block_sections_begin = let c = closed_block_section in c.first

pub adapter_sections_begin : first adapter_section ≡ adapter_firsts
adapter_sections_begin = let c = closed_adapter_section in c.first

pub subapplication_sections_begin : first subapplication_section ≡ subapplication_firsts
subapplication_sections_begin = let c = closed_subapplication_section in c.first

pub application_sections_begin : first application_section ≡ application_firsts
application_sections_begin = let c = closed_application_section in c.first
