-- What is said under a name depends on the text under it alone.
use Rattle.std.proofs.Common.{option_map, ap}
use Rattle.std.specs.Option.{option_and_then}
use Rattle.fb_tree.specs.Mentions.{unit_kind_of}
use Rattle.fb_iface.specs.Library.View.{tree_of}
use Rattle.fb_types.specs.{Applications.{applications_of}, Local.{NetworksAreLocal}, Networks.{network_of}}

pub networks_local : NetworksAreLocal
networks_local a b name same =
    let tree = ap (option_and_then tree_of) same in
    record {
      network = ap (option_map network_of) tree;
      applications = ap (option_map applications_of) tree;
      kind = ap (option_map unit_kind_of) tree;
    }
