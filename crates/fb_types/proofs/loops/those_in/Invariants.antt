use Rattle.std.proofs.Common.{◌≡◌, take, filter}
use Rattle.fb_iface.specs.Library.Seen.{has_name}
use Rattle.fb_types.proofs.loops.those_in.Given as goal

abbrev pub invariant-loop-name : goal.invariant-loop-name
invariant-loop-name l = l.found.items ≡ filter (has_name l.set.keys) (take l.name-index l.names)
