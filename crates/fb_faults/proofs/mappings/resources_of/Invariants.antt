use Rattle.std.proofs.Common.{◌≡◌, ℕ, List, is_some, map, take}
use Rattle.std.specs.BTreeSet.{contains}
use Rattle.fb_tree.specs.{Text.Order.{name_cmp}, Tree.{device_tree}}
use Rattle.fb_netcheck.specs.Iface.Names.{stands_for}
use Rattle.fb_faults.specs.{Mappings.{has_resource, resources_in}, Pairs.{pair_cmp}}
use Rattle.fb_faults.proofs.mappings.resources_of.Given as goal

abbrev pub invariant-loop-device : goal.invariant-loop-device
invariant-loop-device l = record {
  noted : (q : List ℕ) → contains name_cmp l.seen q ≡ is_some (stands_for (resources_in (map device_tree (take l.device-index l.devices))) q);
  kept : (device resource : List ℕ) → contains pair_cmp l.resources (device, resource) ≡ has_resource (map device_tree (take l.device-index l.devices)) device resource;
}
