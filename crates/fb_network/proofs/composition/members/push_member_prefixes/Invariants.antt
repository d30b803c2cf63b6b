use Rattle.std.proofs.Common.{take}
use Rattle.fb_network.proofs.PortMembers.{AddsMembers}
use Rattle.fb_network.proofs.composition.members.push_member_prefixes.Given as goal

abbrev pub invariant-loop-place : goal.invariant-loop-place
invariant-loop-place l = AddsMembers l.fn.prefixes l.prefixes l.names.value.items l.numbers.items (take l.place-index l.places)
