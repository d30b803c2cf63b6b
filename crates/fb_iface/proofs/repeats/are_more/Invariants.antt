use Rattle.std.proofs.Common.{◌≡◌, ◌+◌, length, take}
use Rattle.std.specs.List.{flat_map}
use Rattle.fb_iface.proofs.repeats.are_more.Given as goal

abbrev pub invariant-loop-group : goal.invariant-loop-group
invariant-loop-group l = l.left + length (flat_map (λ v. v.names.items) (take l.group-index l.groups)) ≡ l.count
