use Rattle.std.proofs.Common.{take, filter}
use Rattle.fb_iface.specs.Library.Seen.{has_name, Opens}
use Rattle.fb_types.proofs.cycles.open_new.Given as goal

abbrev pub invariant-loop-name : goal.invariant-loop-name
invariant-loop-name l = Opens (filter (has_name l.within.keys) (take l.name-index l.names)) l.initial.seen.keys l.initial.pending.items l.seen.keys l.pending.items
