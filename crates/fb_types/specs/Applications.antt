-- The applications of systems as plain values.
use Rattle.std.specs.Prelude.{List, [], map}
use Rattle.fb_tree.specs.Tree.{ApplicationTree, DeclTree, block_type, adapter_type, subapplication_type, system_configuration, structure_type}
use Rattle.fb_types.specs.{Networks.{plain_network}, declared.systems.Application.{Application}}

abbrev pub plain_application : ApplicationTree → Application
plain_application a = record { name = a.name.name; network = plain_network [] a.network }

-- in the order of the text; types and structures have none
abbrev pub applications_of : DeclTree → List Application
applications_of (block_type d) = []
applications_of (adapter_type d) = []
applications_of (subapplication_type d) = []
applications_of (system_configuration s) = map plain_application s.applications
applications_of (structure_type s) = []
