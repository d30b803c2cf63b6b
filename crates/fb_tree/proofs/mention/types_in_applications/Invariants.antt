use Rattle.std.proofs.Common.{◌≡◌, map, take}
use Rattle.std.specs.List.{flat_map}
use Rattle.fb_tree.proofs.mention.types_in_applications.Given as goal

abbrev pub invariant-loop-application : goal.invariant-loop-application
invariant-loop-application l =
    l.names.items ≡ flat_map (λ a. map (λ i. i.type_name.name) a.network.instances.items) (take l.application-index l.applications)
