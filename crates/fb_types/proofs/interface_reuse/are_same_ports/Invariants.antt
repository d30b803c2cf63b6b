use Rattle.std.proofs.Common.{◌≡◌, take}
use Rattle.fb_types.proofs.interface_reuse.are_same_ports.Given as goal

abbrev pub invariant-loop-place : goal.invariant-loop-place
invariant-loop-place l = take l.place l.a ≡ take l.place l.b
