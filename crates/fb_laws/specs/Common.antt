-- The names that most files cite, passed on from one place. Declares nothing.
pub use Rattle.fb_deploy.specs.{Deploy.{faulty, planned}, Faults.Faults.{faults_of}, Iface.Ports.{DeclaredEvent, DeclaredInstance}}
pub use Rattle.fb_deploy.specs.{Iface.Ports.{DeclaredVariable}, Iface.Names.{first_ones, stands_for}, Iface.declared.classes.Class.TheVariants.{Any, B, Free, I, Num, O, W}}
pub use Rattle.fb_deploy.specs.{Flatten.Nets.{net_at}, Iface.declared.fault.Fault.{Fault}}
pub use Rattle.fb_deploy.specs.{Plans.{plan_at}, Iface.Ports.{Meanings, data_on, events_on, instances_as, instances_in, meanings_in, meanings_in_network, meanings_in_type, meanings_of, variables_in}}
pub use Rattle.fb_deploy.specs.{Parse.Body.{BrokenAt, IsBody, Whole, body_of}, Iface.Declarations.{declared_name, iface_faults_of}, Library.View.{Sources, text_or_empty, tree_at, tree_of, type_in}}
pub use Rattle.fb_deploy.specs.{Flatten.Net.{HasFlat, IsWhole, PlainNet, blocked, flat_net, recursive}, Iface.Class.{class_of_literal, class_of_name, class_of_simple, class_of_type, is_free}}
pub use Rattle.fb_deploy.specs.Iface.declared.code.Code.TheVariants.{AlgorithmUnknown, Class, DataType, Duplicate, EventUnknown, Literal, MappedTwice, MemberUnknown, MixedKind, NameDiffers, NoSuchResource, ParameterUnknown, PassThrough, PortSide, PortUnknown, SecondAdapter, SecondSource, StateUnknown, StructRecursive, Syntax, UnknownType, VariableUnknown, WithUnknown, WrongKind}
pub use Rattle.fb_expr.specs.{declared.rules.ClassPlace.{ClassPlace}, declared.rules.ClassPlace.TheVariants.{Condition, Count, Counter, Selector}}
pub use Rattle.fb_netcheck.specs.{declared.ends.Holder.{Holder}, declared.ends.Port.{Port}}
pub use Rattle.fb_netcheck.specs.{declared.ends.Holder.TheVariants.{OfInstance, OfPlug, OfSocket, Own}, declared.ends.Position.{Position}, declared.ends.Position.TheVariants.{Destination, Source}}
pub use Rattle.fb_placing.specs.{PlainResource.{PlainResource}, Resolved.{PlainResolved, leads_nowhere, path_names, resolved_at}, Systems.{applications_in, mappings_in}}
pub use Rattle.fb_sections.specs.Constants.{constant, type_use}
pub use Rattle.fb_structured_text.specs.{Forms.Form.{Form, Spells, as_value, one}, Forms.Lexemes.{lexemes_of}, Forms.declared.kind.Kind.{Kind}, Forms.declared.lexeme.Lexeme.{Lexeme}}
pub use Rattle.fb_text.specs.{Elementary.{is_elementary}, declared.name.NameUse.{NameUse}, declared.token.Span.{Span}, declared.token.Token.{Token}}
pub use Rattle.fb_tree.specs.Expression.{Expression, Expressions, Operands, ReferenceTree, alone_tree, expression_then, literal_expression, no_expressions, no_operands, operand_then, parentheses, reference_expression, row_expression, unary_expression}
pub use Rattle.fb_tree.specs.Statement.{Arms, Statement, Statements, arm_then, assignment, choice, count, empty, exit, no_arms, no_statements, repeat_loop, return, selection, statement_then, statements_of, while_loop}
pub use Rattle.fb_tree.specs.Tree.{AlgorithmTree, ApplicationTree, ChartTree, ConditionTree, ConstantTree, DeclTree, DeviceTree, EventTree, InstanceTree, InterfaceTree, MappingTree, NetworkTree, ParameterTree, ResourceTree, StateTree, StructureTree, SystemTree, TransitionTree, TypeTree, VariablesTree, adapter_type, always, block_type, constant_span, guard, guarded, on_event, one_value, structure_type, subapplication_type, system_configuration, value_list, value_span}
pub use Rattle.fb_tree.specs.{declared.chart.Action.{Action}, declared.constant.Simple.{Simple}, declared.reference.Member.{Member}, declared.network.Role.{Role}, declared.interface.Section.{Section}}
pub use Rattle.fb_tree.specs.{declared.interface.TypeUse.{TypeUse}, declared.expression.BinaryUse.{BinaryUse}, declared.expression.UnaryUse.{UnaryUse}, declared.kinds.UnitKind.{UnitKind}}
pub use Rattle.fb_tree.specs.{declared.network.End.{End}, declared.interface.Side.{Side}, declared.network.Sort.{Sort}}
pub use Rattle.fb_tree.specs.{declared.network.Connection.{Connection}, declared.interface.Side.TheVariants.{Input, Output}, declared.network.Role.TheVariants.{Block, Plug, Socket, Subapplication}}
pub use Rattle.fb_types.specs.{Network.PlainFlat.{PlainFlat}, Network.declared.flat.FlatBlock.{FlatBlock}, Network.declared.flat.Link.{Link}}
