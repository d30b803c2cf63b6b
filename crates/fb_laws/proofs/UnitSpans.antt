-- The parts of transitions and algorithms, of sections that are joined, and of units.
use Rattle.fb_laws.proofs.Common.{arith, ◌≡◌, ◌↔◌, ◌∙◌, sym, List, [], ◌∷◌, ◌++◌, Some, None, flat_map, subst, append-nil, flat_map-append, NameUse, Form, many, as_value, name, Name, NameIn, NameOn, NameSt, among_left, among_right, end, Kind, blocks, plugs, sockets, Statement, levels, statement, Part, name_part, name_parts, option_parts, end_parts, expression_parts, statement_parts, condition_parts, transition_parts, algorithm_parts, variables_parts, interface_parts, network_parts, chart_parts, declared_parts, application_parts, device_parts, mapping_parts, system_parts, structure_parts, tree_parts}
use Rattle.fb_laws.proofs.Sound.{Each, each_append, each_prefix, each_rest, Sound, sound_nothing, sound_both, sound_as, sound_either, sound_option, sound_many, sound_behind, sound_before, sound_section, sound_mark, sound_name, sound_name_of, sound_same}
use Rattle.fb_laws.proofs.Sections.{sound_end, sound_events, sound_data_variables, sound_variables, sound_instances, sound_subapplications, sound_connections, sound_states, sound_mappings, sound_device}
use Rattle.fb_laws.proofs.{ExpressionSpans.{sound_expression}, Statements.{sound_statement}}
use Rattle.fb_deploy.specs.Parse.Chart.{bracketed, joined_test, optional_test, on_event_with, event_condition, condition, transition, transitions, structured_text, other_language, algorithm_body, algorithm}
use Rattle.fb_deploy.specs.Parse.Contents.{ContentsTree, of_variables, of_adapters, of_instances, of_connections, of_states, of_transitions, of_algorithm, joined}
use Rattle.fb_deploy.specs.Parse.Grammar.{data_section, service_section, interface_section, network_section, chart_section, block_section, adapter_section, application_section, subapplication_section, framed, type_of, block, adapter, subapplication, application_of, application, system_section, system, structure, unit}
use Rattle.fb_deploy.specs.Parse.SystemContents.{SystemContentsTree, of_application, of_device, of_mappings, system_joined}
use Rattle.fb_sections.specs.Interface.{internal_variables, fields}

-- Transitions

sound_bracketed : Sound bracketed expression_parts
unfolding bracketed
sound_bracketed = sound_behind _ _ expression_parts (sound_before _ _ expression_parts (sound_expression levels (omega arith)))

sound_transitions : Sound transitions (flat_map transition_parts)
unfolding transitions transition condition event_condition optional_test joined_test
sound_transitions =
    sound_section _ transition _ transition_parts (sound_as _ _ transition_parts (sound_both name _ name_parts (λ v. name_parts v.0 ++ condition_parts v.1) sound_name
    (sound_behind _ _ _ (sound_both name _ name_parts condition_parts sound_name (sound_behind _ _ _ (sound_before condition _ condition_parts
    (sound_either _ _ condition_parts (sound_as _ _ condition_parts (sound_mark _)) (sound_either _ _ condition_parts (sound_as _ bracketed condition_parts sound_bracketed)
    (sound_as _ _ condition_parts (sound_same _ (λ v. end_parts v.0 ++ option_parts expression_parts v.1) _
    (λ P v h. (elim v.1 as (λ test. Each P (end_parts v.0 ++ option_parts expression_parts test) → Each P (condition_parts (on_event_with v.0 test))) [ None ↦ each_prefix P (end_parts v.0) [] | Some test ↦ λ h. h ]) h)
    (sound_both end _ end_parts (option_parts expression_parts) sound_end (sound_option _ expression_parts (sound_either _ _ expression_parts sound_bracketed
    (sound_behind _ _ expression_parts (sound_expression levels (omega arith))))))))))))))))

-- Algorithms

abbrev body_parts : NameUse × List Statement → List Part
body_parts v = name_part v.0 ∷ flat_map statement_parts v.1

sound_algorithm : Sound algorithm algorithm_parts
unfolding algorithm algorithm_body structured_text other_language
sound_algorithm =
    sound_as _ _ algorithm_parts (sound_behind _ _ _ (sound_both name _ name_parts body_parts sound_name (sound_behind _ _ _ (sound_before algorithm_body _ body_parts
    (sound_either _ _ body_parts (sound_both _ _ name_parts (flat_map statement_parts)
    (sound_name_of (NameSt ∷ []) (λ k h. among_right (Name ∷ NameIn ∷ NameOn ∷ []) (NameSt ∷ []) k h)) (sound_behind _ _ _ (sound_many (statement levels) statement_parts
    (sound_statement levels (omega arith))))) (sound_both _ _ name_parts (flat_map statement_parts)
    (sound_name_of (Name ∷ NameIn ∷ NameOn ∷ []) (λ k h. among_left (Name ∷ NameIn ∷ NameOn ∷ []) (NameSt ∷ []) k h)) (sound_as _ _ _ (sound_nothing _))))))))

-- what holds of each part of two lists
each_both : (P : Part → Type 0) (ps qs : List Part) → Each P (ps ++ qs) ↔ (Each P ps × Each P qs)
each_both P ps qs = (λ h. (each_prefix P ps qs h, each_rest P ps qs h), λ h. each_append P ps qs h.0 h.1)

-- what holds of the parts of each section, and stays so if one more is joined
each_section : {C : Type 0} (P : Part → Type 0) (parts : C → List Part) (whole : List C → C) → Each P (parts (whole [])) → ((c : C) (others : List C) → Each P (parts c) → Each P (parts (whole others)) → Each P (parts (whole (c ∷ others)))) → (all : List C) → Each P (flat_map parts all) → Each P (parts (whole all))
each_section P parts whole none more [] h = none
each_section P parts whole none more (c ∷ others) h = more c others (each_prefix P (parts c) (flat_map parts others) h) (each_section P parts whole none more others (each_rest P (parts c) (flat_map parts others) h))

-- Sections

abbrev contents_parts : ContentsTree → List Part
contents_parts c = interface_parts c.interface ++ (network_parts c.network ++ chart_parts c.chart)

each_joined : (P : Part → Type 0) (all : List ContentsTree) → Each P (flat_map contents_parts all) → Each P (contents_parts (joined all))
each_joined P = each_section P contents_parts joined tt (λ c others h k. let first = simp each_both at h in let rest = simp each_both at k in simp (flat_map-append, each_both) assumption)

-- items with nothing after them
sound_of : {A C : Type 0} {x : Form A} {f : A → List Part} (parts : C → List Part) (of : A → C) → Sound x f → ((v : A) → f v ≡ parts (of v)) → Sound (as_value of x) parts
sound_of {x = x} {f = f} parts of h same = sound_as of x parts (sound_same x f (λ v. parts (of v)) (λ P v. subst (Each P) (same v)) h)

sound_data_section : Sound data_section contents_parts
unfolding data_section
sound_data_section = grind (arith, sound_events, append-nil, sound_data_variables)

sound_interface_section : Sound interface_section contents_parts
unfolding interface_section plugs sockets
sound_interface_section =
    sound_either _ _ contents_parts sound_data_section (sound_either _ _ contents_parts (sound_of _ of_adapters (sound_instances _ _ _) (λ v. simp append-nil))
    (sound_of _ of_adapters (sound_instances _ _ _) (λ v. simp append-nil)))

sound_network_section : Sound network_section contents_parts
unfolding network_section blocks
sound_network_section =
    sound_either _ _ contents_parts (sound_of _ of_instances (sound_instances _ _ _) (λ v. simp append-nil)) (sound_of _ of_connections sound_connections (λ v. simp append-nil))

sound_block_section : Sound block_section contents_parts
unfolding block_section internal_variables chart_section service_section
sound_block_section =
    sound_either _ _ contents_parts sound_interface_section
    (sound_either _ _ contents_parts (sound_of _ of_variables (sound_section _ _ _ variables_parts (sound_variables _)) (λ v. simp append-nil))
    (sound_either _ _ contents_parts sound_network_section
    (sound_either _ _ contents_parts (sound_either _ _ contents_parts (sound_of _ of_states sound_states (λ v. simp append-nil))
    (sound_either _ _ contents_parts (sound_of _ of_transitions sound_transitions (λ v. simp append-nil)) (sound_of _ of_algorithm sound_algorithm (λ v. simp append-nil))))
    (sound_as _ _ contents_parts (sound_nothing _)))))

sound_application_section : Sound application_section contents_parts
unfolding application_section
sound_application_section = sound_either _ _ contents_parts sound_network_section (sound_of _ of_instances sound_subapplications (λ v. simp append-nil))

-- Types

abbrev framed_parts : NameUse × ContentsTree → List Part
framed_parts v = name_part v.0 ∷ contents_parts v.1

sound_framed : (start : Kind) (section : Form ContentsTree) (end : Kind) → Sound section contents_parts → Sound (framed start section end) framed_parts
sound_framed start section end h =
    sound_behind _ _ framed_parts (sound_both name _ name_parts contents_parts sound_name (sound_before _ _ contents_parts (sound_as joined (many section) contents_parts
    (sound_same (many section) (flat_map contents_parts) (λ v. contents_parts (joined v)) each_joined (sound_many section contents_parts h)))))

-- Systems

abbrev system_contents_parts : SystemContentsTree → List Part
system_contents_parts c = flat_map application_parts c.applications ++ (flat_map device_parts c.devices ++ flat_map mapping_parts c.mappings)

each_in_system : (P : Part → Type 0) (all : List SystemContentsTree) → Each P (flat_map system_contents_parts all) → Each P (system_contents_parts (system_joined all))
each_in_system P = each_section P system_contents_parts system_joined tt (λ c others h k. let first = simp each_both at h in let rest = simp each_both at k in simp (flat_map-append, each_both) assumption)

sound_system : Sound system system_parts
unfolding system system_section application
sound_system =
    sound_as _ _ system_parts
    (sound_behind _ _ _ (sound_both name _ name_parts system_contents_parts sound_name (sound_before _ _ system_contents_parts (sound_as system_joined _ system_contents_parts
    (sound_same _ (flat_map system_contents_parts) (λ v. system_contents_parts (system_joined v)) each_in_system (sound_many _ system_contents_parts
    (sound_either _ _ system_contents_parts
    (sound_of _ of_application (sound_as application_of _ application_parts (sound_same _ framed_parts (λ v. application_parts (application_of v))
    (λ P v h. let parts = simp each_both at h.1 in (h.0, simp each_both parts.1.0)) (sound_framed _ application_section _ sound_application_section)))
    (λ v. sym (append-nil (application_parts v ++ []) ∙ append-nil (application_parts v))))
    (sound_either _ _ system_contents_parts (sound_of _ of_device sound_device (λ v. sym (append-nil (device_parts v ++ []) ∙ append-nil (device_parts v))))
    (sound_as of_mappings _ system_contents_parts sound_mappings)))))))))

-- Units

pub sound_unit : Sound unit tree_parts
unfolding unit block adapter adapter_section subapplication subapplication_section service_section structure fields
sound_unit =
    sound_either _ _ tree_parts (sound_as _ block tree_parts (sound_as type_of _ declared_parts (sound_framed _ block_section _ sound_block_section)))
    (sound_either _ _ tree_parts (sound_as _ adapter tree_parts (sound_as type_of _ declared_parts (sound_framed _ adapter_section _
    (sound_either _ _ contents_parts sound_data_section (sound_as _ _ contents_parts (sound_nothing _))))))
    (sound_either _ _ tree_parts (sound_as _ subapplication tree_parts (sound_as type_of _ declared_parts (sound_framed _ subapplication_section _
    (sound_either _ _ contents_parts sound_interface_section (sound_either _ _ contents_parts sound_application_section (sound_as _ _ contents_parts (sound_nothing _)))))))
    (sound_either _ _ tree_parts (sound_as _ system tree_parts sound_system)
    (sound_as _ structure tree_parts (sound_as _ _ structure_parts (sound_behind _ _ _ (sound_both name _ name_parts (flat_map variables_parts) sound_name
    (sound_behind _ _ _ (sound_before _ _ (flat_map variables_parts) (sound_section _ _ _ variables_parts (sound_variables _)))))))))))
