-- No part of the grammar of units takes the end of a text or a comment that is never closed.
use Rattle.std.proofs.{Common.{◌≡◌, ℕ, zero, suc, Bool, true, List, [], ◌∷◌, refl}, lemmas.Bool.{and_parts}}
use Rattle.std.specs.List.{list_all}
use Rattle.fb_structured_text.specs.{Forms.declared.kind.Kind.{Kind}, Forms.Form.{Form}, Forms.Reading.{are_apart}, Forms.Words.{name, names}}
use Rattle.fb_structured_text.specs.Operators.{strengths}
use Rattle.fb_structured_text.specs.Expression.{levels, expressions, subscripts, flat_part, deep_part, flat_reference, deep_reference, literal, parenthesized, flat_primary, deep_primary, unary, operand, row, rows, expression, reference}
use Rattle.fb_structured_text.specs.Statement.{int, label, labels, ended, assignment_statement, simple_statement, enclosed, announced, otherwise, arm, arms, if_statement, case, cases, case_statement, for_statement, while_statement, repeat_statement, nested_statement, statement}
use Rattle.fb_structured_text.proofs.Forms.Ending.{closings, is_without}
use Rattle.fb_tree.specs.{Expression.{Expression}, Statement.{Statement}}
use Rattle.fb_sections.specs.Constants.{number, range, ranges, length_of_string, plain_type, array_type, type_use, simple, constant_list, constant}
use Rattle.fb_sections.specs.Network.{parameter, listed_parameters, parameters, optional_parameters, instance, plugs, sockets, blocks, inner_subapplication, subapplications, end, connection, connections}
use Rattle.fb_sections.specs.Chart.{sent_event, action, actions, state, states}
use Rattle.fb_sections.specs.SystemParts.{path, mapping, mappings, optional_semicolon, header, resource, device}
use Rattle.fb_sections.specs.Skipped.{all_kinds, others, skipped, service}
use Rattle.fb_sections.specs.{Sections.{optional_name}, Interface.{with_names, event, events, initial, variables, data_variables, internal_variables, fields}}
use Rattle.fb_parse.specs.Chart.{bracketed, joined_test, optional_test, event_condition, condition, transition, transitions, optional_colon, structured_text, other_language, algorithm_body, algorithm}
use Rattle.fb_parse.specs.Grammar.{data_section, service_section, interface_section, network_section, chart_section, block_section, adapter_section, application_section, subapplication_section, block, adapter, subapplication, application, system_section, system, structure, unit}

-- A form takes tokens alone.
abbrev IsOfTokens : {A : Type 0} → Form A → Type 0
IsOfTokens x = is_without closings x ≡ true

-- Expressions

abbrev of_tokens : List (List Kind) → Bool
of_tokens all = list_all (λ kinds. are_apart kinds closings) all

in_row : (kinds : List Kind) (x : Form Expression) → are_apart kinds closings ≡ true → IsOfTokens x → IsOfTokens (row kinds x)
unfolding row operand
in_row kinds x apart h = rw (h, apart) refl

in_rows : (x : Form Expression) → IsOfTokens x → (all : List (List Kind)) → of_tokens all ≡ true → IsOfTokens (rows all x)
unfolding rows
in_rows x h [] apart = h
in_rows x h (kinds ∷ stronger) apart =
    let parts = and_parts (are_apart kinds closings) (of_tokens stronger) apart in
    in_row kinds (rows stronger x) parts.0 (in_rows x h stronger parts.1)

in_unary : (x : Form Expression) → IsOfTokens x → IsOfTokens (unary x)
unfolding unary
in_unary x h = rw h refl

in_flat_reference : IsOfTokens flat_reference
unfolding flat_reference flat_part name
in_flat_reference = refl

in_deep_reference : (inner : Form Expression) → IsOfTokens inner → IsOfTokens (deep_reference inner)
unfolding deep_reference deep_part subscripts expressions name
in_deep_reference inner h = rw h refl

in_flat_primary : IsOfTokens flat_primary
unfolding flat_primary literal
in_flat_primary = rw in_flat_reference refl

in_deep_primary : (inner : Form Expression) → IsOfTokens inner → IsOfTokens (deep_primary inner)
unfolding deep_primary literal parenthesized
in_deep_primary inner h = rw (in_deep_reference inner h, h) refl

in_expression : (n : ℕ) → IsOfTokens (expression n)
unfolding expression
in_expression zero = in_rows (unary flat_primary) (in_unary flat_primary in_flat_primary) strengths refl
in_expression (suc n) =
    in_rows (unary (deep_primary (expression n))) (in_unary (deep_primary (expression n)) (in_deep_primary (expression n) (in_expression n))) strengths refl

in_reference : (n : ℕ) → IsOfTokens (reference n)
unfolding reference
in_reference zero = in_flat_reference
in_reference (suc n) = in_deep_reference (expression n) (in_expression n)

-- Statements

in_simple : (n : ℕ) → IsOfTokens (simple_statement n)
unfolding simple_statement ended assignment_statement
in_simple n = rw (in_reference n, in_expression n) refl

in_if : (e : Form Expression) (inner : Form Statement) → IsOfTokens e → IsOfTokens inner → IsOfTokens (if_statement e inner)
unfolding if_statement arms arm announced otherwise
in_if e inner h i = rw (h, i) refl

in_case : (e : Form Expression) (inner : Form Statement) → IsOfTokens e → IsOfTokens inner → IsOfTokens (case_statement e inner)
unfolding case_statement cases case labels label int announced otherwise
in_case e inner h i = rw (h, i) refl

in_for : (e : Form Expression) (inner : Form Statement) → IsOfTokens e → IsOfTokens inner → IsOfTokens (for_statement e inner)
unfolding for_statement announced enclosed name
in_for e inner h i = rw (h, i) refl

in_while : (e : Form Expression) (inner : Form Statement) → IsOfTokens e → IsOfTokens inner → IsOfTokens (while_statement e inner)
unfolding while_statement announced enclosed
in_while e inner h i = rw (h, i) refl

in_repeat : (e : Form Expression) (inner : Form Statement) → IsOfTokens e → IsOfTokens inner → IsOfTokens (repeat_statement e inner)
unfolding repeat_statement enclosed
in_repeat e inner h i = rw (h, i) refl

in_nested : (e : Form Expression) (inner : Form Statement) → IsOfTokens e → IsOfTokens inner → IsOfTokens (nested_statement e inner)
unfolding nested_statement
in_nested e inner h i = rw (in_if e inner h i, in_case e inner h i, in_for e inner h i, in_while e inner h i, in_repeat e inner h i) refl

in_statement : (n : ℕ) → IsOfTokens (statement n)
unfolding statement
in_statement zero = in_simple zero
in_statement (suc n) = rw (in_simple (suc n), in_nested (expression (suc n)) (statement n) (in_expression (suc n)) (in_statement n)) refl

-- Sections

in_events : IsOfTokens events
unfolding events event optional_name with_names names name
in_events = refl

in_variables : (IsOfTokens data_variables) × (IsOfTokens internal_variables) × (IsOfTokens fields)
unfolding data_variables internal_variables fields variables initial type_use plain_type array_type length_of_string ranges range number constant constant_list simple names name
in_variables = (refl, refl, refl)

in_instances : (IsOfTokens plugs) × (IsOfTokens sockets) × (IsOfTokens blocks)
unfolding plugs sockets blocks instance optional_parameters parameters listed_parameters parameter constant constant_list simple number name
in_instances = (refl, refl, refl)

in_subapplications : IsOfTokens subapplications
unfolding subapplications inner_subapplication name
in_subapplications = refl

in_end : IsOfTokens end
unfolding end optional_name name
in_end = refl

in_connections : IsOfTokens connections
unfolding connections connection
in_connections = rw in_end refl

in_states : IsOfTokens states
unfolding states state actions action sent_event optional_name name
in_states = rw in_end refl

in_skipped : (IsOfTokens service) × (IsOfTokens other_language)
unfolding service other_language skipped others all_kinds
in_skipped = (refl, refl)

in_system_parts : (IsOfTokens mappings) × (IsOfTokens device)
unfolding mappings mapping path device resource header optional_semicolon optional_parameters parameters listed_parameters parameter constant constant_list simple number name
in_system_parts = (refl, refl)

in_transitions : IsOfTokens transitions
unfolding transitions transition condition event_condition optional_test joined_test bracketed name
in_transitions = rw (in_expression levels, in_end) refl

in_algorithm : IsOfTokens algorithm
unfolding algorithm algorithm_body structured_text optional_colon name
in_algorithm = rw (in_statement levels, in_skipped.1) refl

in_interface_section : IsOfTokens interface_section
unfolding interface_section data_section
in_interface_section = rw (in_events, in_variables.0, in_instances.0, in_instances.1) refl

in_network_section : IsOfTokens network_section
unfolding network_section
in_network_section = rw (in_instances.2, in_connections) refl

in_chart_section : IsOfTokens chart_section
unfolding chart_section
in_chart_section = rw (in_states, in_transitions, in_algorithm) refl

in_service_section : IsOfTokens service_section
unfolding service_section
in_service_section = in_skipped.0

-- Units

in_block : IsOfTokens block
unfolding block block_section name
in_block = rw (in_interface_section, in_variables.1, in_network_section, in_chart_section, in_service_section) refl

in_adapter : IsOfTokens adapter
unfolding adapter adapter_section data_section name
in_adapter = rw (in_events, in_variables.0, in_service_section) refl

in_application_section : IsOfTokens application_section
unfolding application_section
in_application_section = rw (in_network_section, in_subapplications) refl

in_subapplication : IsOfTokens subapplication
unfolding subapplication subapplication_section name
in_subapplication = rw (in_interface_section, in_application_section, in_service_section) refl

in_system : IsOfTokens system
unfolding system system_section application name
in_system = rw (in_application_section, in_system_parts.1, in_system_parts.0) refl

in_structure : IsOfTokens structure
unfolding structure optional_semicolon name
in_structure = rw in_variables.2 refl

pub unit_of_tokens : is_without closings unit ≡ true
unfolding unit
unit_of_tokens = rw (in_block, in_adapter, in_subapplication, in_system, in_structure) refl
