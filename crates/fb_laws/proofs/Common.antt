-- The names that most files cite, passed on from one place. Declares nothing.
pub use Rattle.fb_deploy.proofs.{ComputedPlans.{plan_at_is}, Iface.ScopeLocal.{in_order_has}, Iface.TableLemmas.{stands_for-first_ones}, Library.CarriedLemmas.{carried_is_all}}
pub use Rattle.fb_deploy.proofs.{Parse.Bodies.{told}, Library.Locality.{part_mention, parts_more, rests_more, value_mention}, Iface.EarlierLemmas.{at_place, earlier_name, in_places, named_among}}
pub use Rattle.fb_deploy.proofs.{Faults.OrderLemmas.{broken_alone, those_reported}, Flatten.ComputedNets.{done_part, net_at_is, unit_faultless}, Library.SeenLemmas.{Contains-has, has-Contains}}
pub use Rattle.fb_deploy.proofs.{Flatten.SoundLemmas.{no_names_sorted, sound_below, sound_part, sound_tree}, Iface.NameLemmas.{named, none_named, not_named, same_exact, same_itself}}
pub use Rattle.fb_deploy.proofs.Library.Opening.{from_names}
pub use Rattle.fb_deploy.specs.{Iface.Ports.{Meanings, events_in, instances_in, meanings_in_type, same_role, same_side, variables_in, variables_together}, Iface.Sides.{is_data_on}}
pub use Rattle.fb_deploy.specs.{Library.Near.{Carries, bases_at, carried_of, directly, onward}, Mapping.Placed.{IsSystem}, Iface.Fields.{Fields, NoFields, fields_in, fields_near, fields_of_tree}}
pub use Rattle.fb_deploy.specs.{Deploy.{IsPlan, faulty, planned, planned_by, with_homes}, Library.Rests.{PartRests, Rests, itself, on_itself}, Iface.Names.{first_ones, has_name, is_same, stands_for}}
pub use Rattle.fb_deploy.specs.{Faults.Faults.{faults_of, syntax_faults_of, text_faults}, Iface.declared.classes.Class.{Class}, Iface.declared.code.Code.{Code}}
pub use Rattle.fb_deploy.specs.{Iface.Scope.{Scope, instance_ports, ports_of, scope_of_type, type_ports_of, usable}, Iface.Types.{instance_faults, instances_of, suits, type_fault, type_faults}}
pub use Rattle.fb_deploy.specs.{Flatten.Net.{HasFlat, IsNet, IsSound, IsWhole, PlainNet, blocked, flat_net, recursive, too_large}, Parse.Body.{BodyTree, BrokenAt, IsBody, IsBodyIn, Whole, body_of}}
pub use Rattle.fb_deploy.specs.{Iface.Class.{class_of_name, class_of_simple, class_of_type, is_free, takes}, Iface.Literals.{constant_faults, fits_alone, initial_faults, list_faults, literal_fault}}
pub use Rattle.fb_deploy.specs.{Iface.Fault.{fault_at}, Iface.Spaces.{chart_spaces, interface_spaces, is_block, network_spaces, parameter_names, resource_names, spaces_of, system_spaces, type_spaces}}
pub use Rattle.fb_deploy.specs.Faults.Mappings.{declared_mapping_faults, has_resource, home_faults, home_span, mapping_faults_of, resource_faults, second_mappings, system_mapping_faults}
pub use Rattle.fb_deploy.specs.Iface.Declarations.{declaration_faults, declared_name, duplicate_faults, iface_faults_of, literal_faults_of, mixed_faults, name_faults, space_duplicates, variables_of, with_faults_of}
pub use Rattle.fb_deploy.specs.Library.View.{Sources, mentions_at, mentions_of_tree, parts_at, parts_in, text_or_empty, tree_at, tree_in, tree_of, type_in, values_at, values_in}
pub use Rattle.fb_ecc.specs.Charts.{chart_faults, ecc_faults_of}
pub use Rattle.fb_expr.specs.{Classes.{arithmetical, change, class_of_broken, combined, join, logical, operation, pair_class, unary_class, whole}, Charts.{expr_faults_of, faults_in_unit}}
pub use Rattle.fb_expr.specs.{Spans.{names_span, span_of}, Names.{Names, names_of_type}, declared.references.Referent.TheVariants.{NoMember, Unjudged, Variable}, Expressions.{class_in, row_class}}
pub use Rattle.fb_expr.specs.{Rules.{allows}, declared.references.Referent.{Referent}}
pub use Rattle.fb_expr.specs.Demands.{Demand, algorithm_demands, arms_demands, assigns, chart_demands, code_of_demand, demands_at, demands_in, field_demands, guard_demands, is_field, is_known, is_met, names_field, names_variable, range_demands, referent_through, row_demands, statement_demands, statements_demands, subscript_demands, suits_operand, suits_operands, suits_place, transition_demands}
pub use Rattle.fb_expr.specs.References.{class_of_element, class_of_referent, class_with, data_referent, fields_behind, fields_named, is_before_port, is_data, is_some_count, member_among, own_referent, port_named, port_referent, referent_of, step, unless_judged, variable_named, walk}
pub use Rattle.fb_laws.specs.Spans.{Covers, IsWord, ReadsAlone, nearer, nearer_constant, nearer_simple, nearer_span, ConstantsReadAlone, NamesAreWords, PartsAreWritten, PartsReadAlone, SpansCoverTokens, SpansLieInText, SubscriptsAreCounted, counted_by, number_of}
pub use Rattle.fb_laws.specs.Classes.{Calculates, Changes, Combines, Compares, Divides, Fits, HasClass, IsArithmetic, IsLogical, IsPairIn, Joins, JoinsTruths, Makes, Results, RowHasClass, Spoils, Takes, first_pair, later_pair, of_broken, of_element, of_literal, of_no_array, of_no_variable, of_operator, of_parentheses, of_row, of_variable}
pub use Rattle.fb_laws.specs.Common.{Action, AlgorithmTree, AlgorithmUnknown, Any, ApplicationTree, B, BinaryUse, Block, ChartTree, ClassPlace, Condition, ConditionTree, Connection, ConstantTree, Count, Counter, DataType, DeclTree, DeclaredEvent, DeclaredInstance, DeclaredVariable, Destination, DeviceTree, Duplicate, End, EventTree, EventUnknown, Fault, FlatBlock, Free, Holder, I, Input, InstanceTree, InterfaceTree, Kind, Lexeme, Link, Literal, MappedTwice, MappingTree, Member, MemberUnknown, MixedKind, NameDiffers, NameUse, NetworkTree, NoSuchResource, O, Output, Own, ParameterTree, ParameterUnknown, PassThrough, PlainFlat, PlainResource, Plug, Port, PortSide, PortUnknown, Position, ResourceTree, Role, SecondAdapter, SecondSource, Section, Selector, Side, Simple, Socket, Sort, Source, Span, StateTree, StateUnknown, StructRecursive, StructureTree, Subapplication, Syntax, SystemTree, Token, TransitionTree, TypeTree, TypeUse, UnaryUse, UnitKind, UnknownType, VariableUnknown, VariablesTree, WithUnknown, WrongKind, adapter_type, block_type, constant_span, guard, guarded, one_value, plan_at, structure_type, subapplication_type, system_configuration, value_list, value_span}
pub use Rattle.fb_laws.specs.Declarations.{DuplicatesAreReported, HasDuplicate, HasMixedKind, HasOtherName, HasSelfCarrying, HasUnknownType, HasUnknownWith, HasWrongKind, IsDeclaredAt, IsMisfit, MisfitsAreReported, MixedKindsAreReported, OtherNamesAreReported, RecursiveStructuresAreReported, Suits, UnknownTypesAreReported, UnknownWithsAreReported, WrongKindsAreReported, no_array, no_list}
pub use Rattle.fb_laws.specs.Declared.{AreDeclaredIn, Cell, IsBefore, IsBlockAt, IsDataOn, IsEventOn, IsFirstEvent, IsFirstInstance, IsFirstItem, IsFirstVariable, IsHeldIn, IsInstanceAs, IsItemOf, IsType, IsVariableIn, data_input, data_output, fields_of_structure, in_earlier_row, in_same_row, instance_of_application, instance_of_type, of_adapter, of_block, of_subapplication, variables_of_type}
pub use Rattle.fb_laws.specs.Ends.{HaveSameNames, IsEndOf, IsNetworkOf, IsPort, IsReached, IsReachedBy, IsRightSide, NamesRight, Site, destination, event, instance_destination, instance_source, of_block_instance, of_plug, of_socket, of_subapplication_instance, own_destination, own_port, own_source, place_of, plug, plug_destination, plug_source, port_of, socket, socket_destination, socket_source, source}
pub use Rattle.fb_laws.specs.Expressions.{BreaksRule, ClassesAreRight, ExpressionsHaveOneClass, HasBrokenRule, HasUnknownMember, HasUnknownVariable, IsNamedIn, MembersAreKnown, VariablesAreKnown, at_assignment, at_counter, at_guard, at_operator, at_subscript, behind_for, between_operands, in_reference}
pub use Rattle.fb_laws.specs.Mappings.{HasLostMapping, HasSecondMapping, IsLost, IsSystemAt, MappingsHaveHomes, MappingsHaveOwnPaths, last_of, no_device, no_resource, place_of_path}
pub use Rattle.fb_laws.specs.Networks.{AdaptersHaveOneEnd, ConnectionOf, DestinationsHaveOneSource, DifferInType, EndOf, HasMisfit, HasOtherType, HasPassThrough, HasSecondAdapter, HasSecondSource, HasUnknownParameter, HasUnknownPort, HasWrongSide, IsSameType, IsTaken, NothingPassesThrough, ParameterOf, ParametersAreKnown, ParametersFit, PortsAreKnown, PortsAreOfRightSides, TypesAgree, adapter_types, by_earlier, by_source, data_types, of_arrays, of_names, of_sizes}
pub use Rattle.fb_laws.specs.Occurrences.{Asks, HasExpression, IsAmong, IsArmOf, IsGuardOf, IsOneOf, IsOperandOf, IsRunIn, IsTestedIn, IsWrittenIn, OccursIn, behind_cases, behind_else, behind_operator, first_arm, first_one, first_operand, in_arm, in_case, in_first, in_first_statement, in_for, in_guard, in_later_statement, in_operand, in_repeat, in_statement, in_subscript, in_while, later_arm, later_one, later_operand, selector, this, until_condition, value, while_condition, with_event}
pub use Rattle.fb_laws.specs.Paths.{IsAbove, IsAtPath, IsMappedTo, IsMisplaced, IsOfSomething, MakesMapped, MisplacedIsTold, NothingPlannedIsMisplaced, in_application, inside, making, of_application, of_nothing, path_of, unmapped, with_points}
pub use Rattle.fb_laws.specs.Places.{IsLast, StandsAt, alone, later, no_row, only, subscripted, with_second}
pub use Rattle.fb_laws.specs.Plans.{HasCommands, IsHome, IsPlacedWhole, IsPlanned, StandsOn, AllBegin, AreCuts, BeginsWith, BlocksHaveOneHome, EndsHaveOneHome, HomesHaveCommands, IsCutOrMade, IsInOrder, IsMade, IsWithin, JoinsResources, MakesBlock, MakesItsBlocks, MakesItsLinks, NoneBegins, PlacedSystemsHaveCommands, ResourcesHaveTheirCommands, SetsItsParameters, SetsParameter, StandsOnce}
pub use Rattle.fb_laws.specs.Ports.{AdaptersAreDeclared, AreExactly, ComeAsDeclared, ComeAsDeclaredEach, DataAreDeclared, EventsAreDeclared, HaveOwnNamesEach, InternalVariablesAreNoPorts, NamesStandForFirst, PortsComeAsDeclared, PortsHaveOwnNames, StandForFirst}
pub use Rattle.fb_laws.specs.SpanParts.{Part, action_parts, algorithm_parts, application_parts, arms_parts, chart_parts, condition_parts, connection_parts, constant_part, constant_parts, declared_parts, device_parts, end_parts, event_parts, expression_part, expression_parts, expressions_parts, instance_parts, interface_parts, mapping_parts, mark_part, name_part, name_parts, names_in, network_parts, operands_parts, operator_part, option_parts, parameter_parts, reference_parts, resource_parts, sign_part, simple_parts, state_parts, statement_parts, statements_parts, structure_parts, system_parts, transition_parts, tree_parts, type_part, type_use_parts, variables_parts}
pub use Rattle.fb_laws.specs.UnitParts.{AbsentUnitsHaveNoFaults, BrokenTextsAreReported, BrokenTextsAreReportedAlone, IsBroken, WholeTextsAreNotReported, broken_at, Charts, CodesAreOfTheirParts, ConstantsAreOfTwoParts, Declarations, HasPart, IsCodeOf, IsOfConstants, IsOfPart, Mappings, Networks, PartsHaveAllOtherCodes, PartsHaveOwnCodes, PartsShareOneCode, WholeUnitsHaveFaultsOfParts, class, duplicate, faults_by, initial_value, lost_mapping, mixed_kind, of_constant, other_name, other_type, parameter_value, passage, recursive_structure, second_adapter, second_mapping, second_source, unknown_algorithm, unknown_event, unknown_member, unknown_parameter, unknown_port, unknown_state, unknown_type, unknown_variable, unknown_with, wrong_kind, wrong_side}
pub use Rattle.fb_laws.specs.Usable.{IsAdapter, IsNotJudged, IsUsable, as_block, as_plug, as_socket, as_subapplication, of_unusable}
pub use Rattle.fb_laws.specs.Variables.{Begins, GoesOn, HasField, IsAtPort, IsData, IsOfNoAdapter, IsOpen, NamesType, Shows, at_end, element, generic, own, plain, through, unknown}
pub use Rattle.fb_laws.specs.Written.{BeginsAt, EndsAt, IsWritten, SpellsPart, expression_span, part_span, span_through}
unfoldable pub use Rattle.fb_laws.specs.Written.{mark, operator, sign}
pub use Rattle.fb_netcheck.specs.{Parameters.{all_parameters, instance_parameters, judged_parameters, parameter_faults, typed_parameters, value_faults}, Connections.{connection_faults}}
pub use Rattle.fb_netcheck.specs.{Settings.{NetworkPlace}, Ends.{end_span, holder_of, is_right, port_in, right_side, target, target_held, target_in, target_named, target_of, target_of_instance}}
pub use Rattle.fb_netcheck.specs.{Paths.{Path, PathUse, fault_at_path, has_path, is_repeated, path_of_names, repeated, repeated_faults, same_path}, declared.ends.Target.{Target}}
pub use Rattle.fb_netcheck.specs.{declared.ends.Target.TheVariants.{Found, NotChecked, Unknown}, Repeats.{adapter_ends, data_destination, end_path, path_named, second_adapters, second_sources}}
pub use Rattle.fb_netcheck.specs.{Types.{flows_agree, home_of, joined_types, same_at_ends, targets_agree}, Sides.{connection_span, end_faults, fault_of, is_own, is_own_port, pass_through_faults}}
pub use Rattle.fb_netcheck.specs.Networks.{application_network, net_faults_of, network_faults, tree_faults}
pub use Rattle.fb_placing.specs.{Cuts.{cuts_of, home_at, is_cut, same_home}, Systems.{applications_in, devices_in, mappings_in}, declared.homes.Misplaced.TheVariants.{NoSuchBlock, Unmapped}}
pub use Rattle.fb_placing.specs.{Homes.{block_home, block_homes, misplaced, unless_faulty}, Resources.{commands_for, device_resources, resource_plan, resource_plans, resources_of}}
pub use Rattle.fb_placing.specs.{ResourceCommand.{ResourceCommand}, FirstEntry.{first_at}, declared.homes.Misplaced.{Misplaced}, declared.plan.write_commands.PlacedCommand.{PlacedCommand}}
pub use Rattle.fb_placing.specs.{Mappings.{mapping_home, mapping_path, names_used, resource_at}, SystemCommands.{connection_commands, connection_text, link_resource, system_commands, start_text}}
pub use Rattle.fb_placing.specs.declared.homes.Home.{Home}
pub use Rattle.fb_placing.specs.PlacedCommands.{create_command, create_commands, create_text, home_commands, command_cmp, command_cmp_total, commands_at, write_command, write_commands}
pub use Rattle.fb_placing.specs.Resolved.{PlainResolved, application_called, inner_instances, is_placed, leads_nowhere, resolved_among, resolved_at, resolved_beyond, resolved_inside}
unfoldable pub use Rattle.fb_placing.specs.Resolved.{path_names}
pub use Rattle.fb_sections.specs.Constants.{array_of, element_or_sized, in_brackets, other_literal_kinds}
unfoldable pub use Rattle.fb_sections.specs.Constants.{array_type, constant, constant_list, length_of_string, number, plain_type, simple, type_use}
unfoldable pub use Rattle.fb_sections.specs.Network.{blocks, connection, connections, end, inner_subapplication, instance, listed_parameters, optional_parameters, parameter, parameters, plugs, sockets, subapplications}
pub use Rattle.fb_structured_text.proofs.Forms.Forms.{among_left, among_right}
pub use Rattle.fb_structured_text.specs.Expression.{PartTree, further_part, in_parentheses, last_end, levels, member_in, part_of, parts, reference_in, reference_value, row_of, subscripts_in, with_sign}
pub use Rattle.fb_structured_text.specs.{Forms.Form.{Form, Spells, SpellsEach, SpellsOption, as_value, both, either, many, one, option}, Forms.Lexemes.{lexemes_in, name_or, name_use, spelled_name}}
pub use Rattle.fb_structured_text.specs.{Forms.Literals.{across, literal_kinds}, Forms.Kind.{is_among, name_kinds}, Operators.{binary_use, signs, strengths, unary_use}}
pub use Rattle.fb_structured_text.specs.{Forms.declared.kind.Kind.TheVariants.{Assign, Name, NameIn, NameOn, NameSt, Point}, Forms.Words.{before, behind, cons, key, list, optional_list, separated}}
unfoldable pub use Rattle.fb_structured_text.specs.Expression.{deep_part, deep_primary, deep_reference, expression, expressions, flat_part, flat_primary, flat_reference, literal, operand, parenthesized, reference, row, rows, subscripts, unary}
unfoldable pub use Rattle.fb_structured_text.specs.{Forms.Lexemes.{lexeme_of, lexemes_of}, Forms.Words.{name, names}}
unfoldable pub use Rattle.fb_structured_text.specs.Statement.{announced, arm, arms, assignment_statement, case, case_statement, cases, enclosed, for_statement, if_statement, nested_statement, otherwise, repeat_statement, simple_statement, statement, while_statement}
pub use Rattle.fb_text.proofs.Members.{ComesThrough, contains_cases, contains_filter, contains_flat_map, contains_here, contains_later, contains_map, contains_nothing, contains_single, got_in_map, in_unless, in_written, map_gets, origin_in_flat_map, origin_in_map, passes_in_filter, passes_in_find, unless, written}
pub use Rattle.fb_text.proofs.{NameLemmas.{IsName-upper, is_word-all, name_of-ok}, OrderLemmas.{in_order-members, in_order-sorted}, Tests.{by_bool, not_true}}
pub use Rattle.fb_text.specs.{Bytes.{first}, Order.{in_order, name_cmp, names_in_order}, Tokens.{FitsIn, IsLongest, IsSpelled, LiesIn, SpansRise, char_len, piece_at, spans_of, tokens_of, with_token}}
pub use Rattle.fb_text.specs.{declared.name.NameFault.{NameFault}, declared.token.TokenKind.TheVariants.{Other}, declared.token.TokenKind.{TokenKind}}
unfoldable pub use Rattle.fb_text.specs.{Bytes.{is_word_byte, is_word_start}, Forms.{form_of, is_number, is_string, is_symbol, is_typed}, Words.{is_word}, Elementary.{is_elementary}, Name.{name_of}}
pub use Rattle.fb_tree.specs.Expression.{Expression, Expressions, Operands, ReferenceTree, alone_tree, expression_then, expressions_of, literal_expression, no_expressions, no_operands, operand_then, operands_of, parentheses, reference_expression, row_expression, unary_expression}
pub use Rattle.fb_tree.specs.{Mentions.{instance_types, types_in, unit_kind_of, value_types, variable_types}, declared.interface.TypeForm.{TypeForm}}
pub use Rattle.fb_tree.specs.Statement.{Arms, Statement, Statements, arm_then, arms_of, assignment, choice, count, no_arms, no_statements, repeat_loop, selection, statement_then, statements_of, while_loop}
pub use Rattle.fb_types.proofs.Network.NearestLemmas.{is_nearest}
pub use Rattle.fb_types.specs.{Applications.{applications_of, plain_application}, Network.Clean.{IsClean, IsCleanThroughout, side_at}, Networks.{instance_in_role, network_of, plain_instance}}
pub use Rattle.fb_types.specs.{Network.Places.{dotted}, Network.LinkOrder.{link_cmp}, Network.declared.network.Instance.{Instance}, Network.FlatNet.{IsFlat}, Network.Printed.{printed}}
pub use Rattle.fb_types.specs.{ByName.{applications_at, declared, kind_at}, Network.Prefixes.{IsPrefix, IsNearest, nearest}, Network.SystemFlat.{IsSystemFlat, application_blocks}}
pub use Rattle.fb_types.specs.{declared.systems.Application.{Application}, Network.declared.network.InstanceKind.{InstanceKind}, Network.declared.flat.application.FlatApplication.{FlatApplication}}
pub use Rattle.fb_types.specs.{Network.Composed.{block_within}, Network.Network.{BlockPort, Chain, IsBorderPlace, IsConnected, IsInner, IsLeafPlace, LeafWithin, More, One, Place, Step, View, Within}}
pub use Rattle.fb_types.specs.{Network.Plain.{PlainNetwork}, Network.Instances.{AreBlocks, AreInstances, Held, NoInstance, ThenBlock, ThenSubapplication, held_as, held_within, leaf_first, leaves_of}}
pub use Rattle.fb_types.specs.Units.{AreFlatApplications, IsFlatApplication, IsUnitFlat, IsWithinLimit, NoApplication, OfSubapplication, OfSystem, ThenApplication, own_instances}
pub use Rattle.std.proofs.Common.{Bool, Err, IsUtf8, List, None, Ok, Option, Result, Some, [], ap, append-nil, append_assoc, arith, cond, drop, false, if◌then◌else◌, inl, inr, length, length-append, length-drop, length-take-le, map, not, refl, subst, suc, sym, take, take-append-drop, true, true≢false, unwrap_or, zero, ℕ, ◌&&◌, ◌++◌, ◌+◌, ◌-◌, ◌<◌, ◌==◌, ◌||◌, ◌↔◌, ◌∙◌, ◌∷◌, ◌≡◌, ◌≢◌, ◌≤◌, ◌⊎◌}
pub use Rattle.std.proofs.{Math.Seq.{drop-append-add, drop-append_seam, take-append_seam}, lemmas.Option.{none-some, same_Some, slice_get_read, slice_get_within}, lemmas.Grind.{flat_map-append}}
pub use Rattle.std.proofs.{lemmas.List.Kept.{IsStrictlySortedBy-filter}, lemmas.Map.Entries.{place_from_lookup}}
pub use Rattle.std.proofs.lemmas.Bool.{and_from, and_parts, cases_lt, cases_order, eqb-false, false_from_ne_true, false≢true, ltb-false, not-false, not-true, or_cases, or_from, or_left, or_parts, or_right, true_from_ne_false}
pub use Rattle.std.proofs.lemmas.List.Elements.{All-append, All-cons, All-contains, All-contains_itself, All-from_recursion, All-head, All-map, All-nil, All-push, All-tail, All-weaker, Contains-append_cases, Contains-append_left, Contains-append_right, filter-append, recursion_from_All}
pub use Rattle.std.proofs.lemmas.List.{append_cancel_left, drop-append-le, drop-drop, drop-map, drop-take, drop_at, map-append, nil_from_length, take-append-le, take-map, take-take, take_all, take_at}
pub use Rattle.std.specs.{List.Sorted.{IsStrictlySortedBy}, Cmp.Lexicographic.{bytes_decides, nat_list_cmp_total, same_text}, Str.{bytes_eq, continuation_len, str_to_ascii_uppercase}}
pub use Rattle.std.specs.List.{AllByRecursion, Contains, before_first, cons_option, enumerate_from, filter_map, flat_map, position_or_len, slice_get, slice_split, sum_by}
pub use Rattle.std.specs.{Prelude.{All, IsOk, codes, filter, find, is_none, is_some, nat_lt, option_map, slice_index_or, slice_range}, FinMap.{get, nat_cmp-IsAntisymmetric, slice_cmp-IsAntisymmetric}}
pub use Rattle.std.specs.Option.{option_and_then, option_map_or, option_or}
pub use native.Mathlib.Decide.{dec_lt}
