use Rattle.std.proofs.Common.{◌≡◌, ◌++◌, take}
use Rattle.std.specs.{BTreeSet.{contains}, List.{flat_map}}
use Rattle.fb_tree.specs.Tree.{mapping_tree}
use Rattle.fb_faults.specs.{Mappings.{home_faults}, Pairs.{pair_cmp}}
use Rattle.fb_faults.proofs.mappings.report_homes.Given as goal

abbrev pub invariant-loop-mapping : goal.invariant-loop-mapping
invariant-loop-mapping l =
    l.found.items ≡ l.initial.found.items ++ flat_map (λ m. home_faults (contains pair_cmp l.resources (m.device.name, m.resource.name)) (mapping_tree m)) (take l.mapping-index l.mappings)
