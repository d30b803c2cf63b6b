use Rattle.std.proofs.Common.{◌≡◌, ℕ, List, ◌&&◌, ◌||◌, map, take}
use Rattle.std.specs.BTreeSet.{contains}
use Rattle.fb_netcheck.specs.Iface.Names.{has_name, is_same}
use Rattle.fb_faults.specs.Pairs.{pair_cmp}
use Rattle.fb_faults.proofs.mappings.add_resources.Given as goal

abbrev pub invariant-loop-resource : goal.invariant-loop-resource
invariant-loop-resource l =
    (name resource : List ℕ) → contains pair_cmp l.resources (name, resource) ≡ (contains pair_cmp l.initial.resources (name, resource) || (is_same l.device name && has_name (map (λ r. r.name) (take l.resource-index l.own)) resource))
