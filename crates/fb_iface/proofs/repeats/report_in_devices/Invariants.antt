use Rattle.std.proofs.Common.{◌≡◌, ◌++◌, map, take}
use Rattle.std.specs.List.{flat_map}
use Rattle.fb_iface.specs.Declarations.{space_duplicates}
use Rattle.fb_iface.proofs.repeats.report_in_devices.Given as goal

abbrev pub invariant-loop-device : goal.invariant-loop-device
invariant-loop-device l =
    l.found.items ≡ l.initial.found.items ++ flat_map (λ d. space_duplicates (map (λ r. r.name) d.resources.items)) (take l.device-index l.devices)
