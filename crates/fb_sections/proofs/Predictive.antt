-- One token tells how to go on in each section.
use Rattle.std.proofs.Common.{[], ◌∷◌, refl}
use Rattle.fb_grammar.specs.declared.kind.Kind.TheVariants.{EventInput, EventOutput, VarInput, VarOutput, Var, Struct, Plugs, Sockets, Fbs, Subapps, EventConnections, DataConnections, AdapterConnections, EcStates, Service, Device, Mappings}
use Rattle.fb_grammar.specs.Words.{name, names}
use Rattle.fb_grammar.proofs.Shapes.{Closed}
use Rattle.fb_sections.specs.Constants.{number, range, ranges, length_of_string, plain_type, array_type, type_use, simple, constant_list, constant}
use Rattle.fb_sections.specs.Network.{parameter, listed_parameters, parameters, optional_parameters, instance, plugs, sockets, blocks, inner_subapplication, subapplications, end, connection, connections}
use Rattle.fb_sections.specs.Chart.{sent_event, action, actions, state, states}
use Rattle.fb_sections.specs.SystemParts.{path, mapping, mappings, optional_semicolon, header, resource, device}
use Rattle.fb_sections.specs.Skipped.{all_kinds, others, skipped, service}
use Rattle.fb_sections.specs.{Sections.{optional_name}, Interface.{with_names, event, events, initial, variables, data_variables, internal_variables, fields}}

pub closed_events : Closed events (EventInput ∷ EventOutput ∷ [])
unfolding events event optional_name with_names names name
closed_events = record { predictive = refl; filled = refl; first = refl; after = refl }

pub closed_data_variables : Closed data_variables (VarInput ∷ VarOutput ∷ [])
unfolding data_variables variables initial type_use plain_type array_type length_of_string ranges range number constant constant_list simple names name
closed_data_variables = record { predictive = refl; filled = refl; first = refl; after = refl }

pub closed_internal_variables : Closed internal_variables (Var ∷ [])
unfolding internal_variables variables initial type_use plain_type array_type length_of_string ranges range number constant constant_list simple names name
closed_internal_variables = record { predictive = refl; filled = refl; first = refl; after = refl }

pub closed_fields : Closed fields (Struct ∷ [])
unfolding fields variables initial type_use plain_type array_type length_of_string ranges range number constant constant_list simple names name
closed_fields = record { predictive = refl; filled = refl; first = refl; after = refl }

pub closed_plugs : Closed plugs (Plugs ∷ [])
unfolding plugs instance optional_parameters parameters listed_parameters parameter constant constant_list simple number name
closed_plugs = record { predictive = refl; filled = refl; first = refl; after = refl }

pub closed_sockets : Closed sockets (Sockets ∷ [])
unfolding sockets instance optional_parameters parameters listed_parameters parameter constant constant_list simple number name
closed_sockets = record { predictive = refl; filled = refl; first = refl; after = refl }

pub closed_blocks : Closed blocks (Fbs ∷ [])
unfolding blocks instance optional_parameters parameters listed_parameters parameter constant constant_list simple number name
closed_blocks = record { predictive = refl; filled = refl; first = refl; after = refl }

pub closed_subapplications : Closed subapplications (Subapps ∷ [])
unfolding subapplications inner_subapplication name
closed_subapplications = record { predictive = refl; filled = refl; first = refl; after = refl }

pub closed_connections : Closed connections (EventConnections ∷ DataConnections ∷ AdapterConnections ∷ [])
unfolding connections connection end optional_name name
closed_connections = record { predictive = refl; filled = refl; first = refl; after = refl }

pub closed_states : Closed states (EcStates ∷ [])
unfolding states state actions action sent_event end optional_name name
closed_states = record { predictive = refl; filled = refl; first = refl; after = refl }

pub closed_service : Closed service (Service ∷ [])
unfolding service skipped others all_kinds
closed_service = record { predictive = refl; filled = refl; first = refl; after = refl }

pub closed_mappings : Closed mappings (Mappings ∷ [])
unfolding mappings mapping path name
closed_mappings = record { predictive = refl; filled = refl; first = refl; after = refl }

pub closed_device : Closed device (Device ∷ [])
unfolding device resource header optional_semicolon optional_parameters parameters listed_parameters parameter constant constant_list simple number name
closed_device = record { predictive = refl; filled = refl; first = refl; after = refl }
