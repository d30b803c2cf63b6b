-- Networks, applications and kinds by name.
use Rattle.std.specs.Prelude.{ℕ, List, Option, option_map}
use Rattle.fb_tree.specs.{Mentions.{unit_kind_of}, declared.kinds.UnitKind.{UnitKind}}
use Rattle.fb_iface.specs.Library.View.{Sources, tree_at}
use Rattle.fb_network.specs.Plain.{PlainNetwork}
use Rattle.fb_types.specs.{Applications.{applications_of}, Networks.{network_of}, declared.systems.Application.{Application}}

-- the network of a unit that is present and not broken
abbrev pub declared : Sources → List ℕ → Option PlainNetwork
declared sources unit = option_map network_of (tree_at sources unit)

abbrev pub applications_at : Sources → List ℕ → Option (List Application)
applications_at sources unit = option_map applications_of (tree_at sources unit)

abbrev pub kind_at : Sources → List ℕ → Option UnitKind
kind_at sources unit = option_map unit_kind_of (tree_at sources unit)
