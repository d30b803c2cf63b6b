-- The parts of constants, types, interfaces, networks, states and parts of systems.
use Rattle.fb_laws.proofs.Common.{inl, inr, refl, List, ◌∷◌, ◌++◌, map, Some, None, flat_map, NameUse, Form, one, both, before, behind, list, name, names, number, length_of_string, element_or_sized, plain_type, array_of, array_type, type_use, other_literal_kinds, simple, in_brackets, constant_list, constant, parameter, listed_parameters, parameters, optional_parameters, instance, inner_subapplication, end, connection, connections, ParameterTree, one_value, value_span, Section, Side, Role, Sort, Part, name_part, constant_part, type_part, name_parts, names_in, option_parts, simple_parts, constant_parts, type_use_parts, event_parts, variables_parts, parameter_parts, instance_parts, end_parts, connection_parts, action_parts, state_parts, resource_parts, device_parts, mapping_parts, Kind, subapplications}
use Rattle.fb_laws.proofs.Sound.{Each, filled_as, filled_either, filled_token, filled_name, ends_filled, ends_second, ends_behind, filled_across, filled_more, filled_from, Sound, sound_nothing, sound_both, sound_first, sound_second, sound_as, sound_either, sound_option, sound_many, sound_behind, sound_before, sound_optional_list, sound_separated, sound_section, sound_own, sound_name, sound_named, sound_names, sound_optional_name, sound_same}
use Rattle.fb_sections.specs.{Chart.{sent_event, action, actions, state, states}, Interface.{with_names, event, events, initial, variables, data_variables}}
use Rattle.fb_sections.specs.{Sections.{section}, SystemParts.{path, mapping, mappings, header, resource, device}}

-- Constants

sound_simple : Sound simple simple_parts
unfolding constant simple number
sound_simple =
    sound_own simple (λ v. constant_part (one_value v)) names_in (λ us v s. inr (v, s, refl))
    (filled_either _ _ value_span (filled_as _ name value_span filled_name) (filled_either _ _ value_span (filled_as _ _ value_span (filled_token other_literal_kinds))
    (filled_as _ number value_span (filled_as _ _ (λ l. l.span)
    (filled_from (one _) (one _) (λ l. l.span) (λ l. l.span) _ (λ token. refl) (λ sign token. refl) (filled_token _) (filled_token _))))))
    (sound_either _ _ names_in (sound_as _ name names_in sound_name)
    (sound_either _ _ names_in (sound_as _ _ names_in (sound_nothing _)) (sound_as _ _ names_in (sound_nothing _))))

pub sound_constant : Sound constant constant_parts
unfolding constant constant_list
sound_constant =
    sound_either _ _ constant_parts
    (sound_as in_brackets _ constant_parts
    (sound_own _ (λ v. constant_part (in_brackets v)) (λ v. flat_map simple_parts v.1.0) (λ us v s. inl (v, s, refl))
    (filled_across _ _ (λ l. l.span) (λ v. v.1.span) (filled_token _) (ends_second (list simple) _ (λ l. l.span) (ends_filled _ (λ l. l.span) (filled_token _))))
    (sound_second _ _ (λ v. flat_map simple_parts v.0) (sound_first (list simple) _ (flat_map simple_parts) (sound_separated _ simple simple_parts sound_simple)))))
    (sound_as _ simple constant_parts sound_simple)

-- Types

sound_type_use : Sound type_use type_use_parts
unfolding type_use plain_type length_of_string array_type
sound_type_use =
    sound_own type_use type_part (λ t. name_parts t.name) (λ us t s. s)
    (filled_either _ _ (λ t. t.span)
    (filled_as _ _ (λ t. t.span) (filled_more name length_of_string (λ n. n.span) (λ l. l.span) _ (λ n. refl) (λ n bracket. refl) filled_name
    (ends_behind _ _ (λ l. l.span) (ends_behind _ _ (λ l. l.span) (ends_filled _ (λ l. l.span) (filled_token _))))))
    (filled_as array_of _ (λ t. t.span) (filled_across _ _ (λ l. l.span) (λ n. n.span) (filled_token _)
    (ends_behind _ _ (λ n. n.span) (ends_behind _ _ (λ n. n.span) (ends_behind _ _ (λ n. n.span) (ends_behind _ name (λ n. n.span) (ends_filled name (λ n. n.span) filled_name))))))))
    (sound_either _ _ (λ t. name_parts t.name)
    (sound_as _ _ (λ t. name_parts t.name) (sound_same _ (λ v. name_parts v.0) _
    (λ P v h. elim v.1 as (λ bracket. Each P (name_parts (element_or_sized v.0 bracket).name)) [ None ↦ h | Some bracket ↦ h ]) (sound_first name _ name_parts sound_name)))
    (sound_as array_of _ (λ t. name_parts t.name)
    (sound_second _ _ name_parts (sound_behind _ _ name_parts (sound_behind _ _ name_parts (sound_behind _ _ name_parts (sound_behind _ name name_parts sound_name)))))))

-- Interfaces

sound_event : (s : Side) → Sound (event s) event_parts
unfolding event with_names
sound_event s =
    sound_as _ _ event_parts
    (sound_both name _ name_parts (λ v. option_parts name_parts v.0 ++ map name_part v.1) sound_name
    (sound_both _ _ (option_parts name_parts) (map name_part) (sound_optional_name _) (sound_before _ _ (map name_part) (sound_named _ (sound_optional_list _ name_parts
    (sound_behind _ names (flat_map name_parts) sound_names))))))

pub sound_events : Sound events (flat_map event_parts)
unfolding events
sound_events = sound_either _ _ (flat_map event_parts) (sound_section _ _ _ event_parts (sound_event _)) (sound_section _ _ _ event_parts (sound_event _))

pub sound_variables : (s : Section) → Sound (variables s) variables_parts
unfolding variables initial
sound_variables s =
    sound_as _ _ variables_parts
    (sound_both names _ (map name_part) (λ v. type_use_parts v.0 ++ option_parts constant_parts v.1) (sound_named names sound_names)
    (sound_behind _ _ _ (sound_both type_use _ type_use_parts (option_parts constant_parts) sound_type_use (sound_before _ _ (option_parts constant_parts)
    (sound_option _ constant_parts (sound_behind _ constant constant_parts sound_constant))))))

pub sound_data_variables : Sound data_variables (flat_map variables_parts)
unfolding data_variables
sound_data_variables = sound_either _ _ (flat_map variables_parts) (sound_section _ _ _ variables_parts (sound_variables _)) (sound_section _ _ _ variables_parts (sound_variables _))

-- Networks

abbrev header_parts : NameUse × (NameUse × List ParameterTree) → List Part
header_parts v = name_part v.0 ∷ name_part v.1.0 ∷ flat_map parameter_parts v.1.1

-- a name, its type and parameters, of an instance, a resource or a device
sound_header : {A B : Type 0} (x : Form A) (y : Form B) → Sound (both name (behind x (both name (before optional_parameters y)))) header_parts
unfolding optional_parameters parameters listed_parameters parameter
sound_header x y =
    sound_both name _ name_parts (λ v. name_parts v.0 ++ flat_map parameter_parts v.1) sound_name
    (sound_behind _ _ _ (sound_both name _ name_parts (flat_map parameter_parts) sound_name (sound_before _ _ (flat_map parameter_parts) (sound_optional_list _ parameter_parts
    (sound_behind _ _ _ (sound_before _ _ (flat_map parameter_parts) (sound_optional_list _ parameter_parts (sound_separated _ parameter parameter_parts
    (sound_as _ _ parameter_parts (sound_both name _ name_parts constant_parts sound_name (sound_behind _ constant constant_parts sound_constant)))))))))))

-- plugs, sockets or blocks
pub sound_instances : (start : Kind) (r : Role) (last : Kind) → Sound (section start (instance r) last) (flat_map instance_parts)
unfolding instance
sound_instances start r last = sound_section start _ last instance_parts (sound_as _ _ instance_parts (sound_header _ _))

pub sound_subapplications : Sound subapplications (flat_map instance_parts)
unfolding subapplications inner_subapplication
sound_subapplications =
    sound_section _ _ _ instance_parts (sound_as _ _ instance_parts (sound_both name _ name_parts name_parts sound_name (sound_behind _ _ _
    (sound_before name _ name_parts sound_name))))

pub sound_end : Sound end end_parts
unfolding end
sound_end = sound_as _ _ end_parts (sound_both name _ name_parts (option_parts name_parts) sound_name (sound_optional_name _))

sound_connection : (s : Sort) → Sound (connection s) connection_parts
unfolding connection
sound_connection s = sound_as _ _ connection_parts (sound_both end _ end_parts end_parts sound_end (sound_behind _ _ _ (sound_before end _ end_parts sound_end)))

pub sound_connections : Sound connections (flat_map connection_parts)
unfolding connections
sound_connections = search (sound_either, sound_section, sound_connection)

-- States

pub sound_states : Sound states (flat_map state_parts)
unfolding states state actions action sent_event
sound_states =
    sound_section _ state _ state_parts (sound_as _ _ state_parts (sound_both name _ name_parts (flat_map action_parts) sound_name (sound_before actions _ (flat_map action_parts)
    (sound_optional_list _ action_parts (sound_behind _ _ _ (sound_separated _ action action_parts (sound_either _ _ action_parts
    (sound_as _ _ action_parts (sound_both name _ name_parts (option_parts end_parts) sound_name (sound_option _ end_parts (sound_behind _ end end_parts sound_end))))
    (sound_as _ _ action_parts (sound_behind _ end end_parts sound_end)))))))))

-- Parts of systems

pub sound_mappings : Sound mappings (flat_map mapping_parts)
unfolding mappings mapping path
sound_mappings = sound_section _ mapping _ mapping_parts (sound_as _ _ mapping_parts
    (sound_both path _ (map name_part) (λ v. name_parts v.0 ++ name_parts v.1) (sound_named _ (sound_separated _ name name_parts sound_name))
    (sound_behind _ _ _ (sound_both name _ name_parts name_parts sound_name (sound_behind _ _ _ (sound_before name _ name_parts sound_name))))))

pub sound_device : Sound device device_parts
unfolding device resource header
sound_device =
    sound_as _ _ device_parts (sound_behind _ _ _ (sound_both header _ header_parts (flat_map resource_parts) (sound_header _ _)
    (sound_before _ _ (flat_map resource_parts) (sound_many resource resource_parts (sound_as _ _ resource_parts (sound_behind _ _ header_parts
    (sound_before header _ header_parts (sound_header _ _))))))))
