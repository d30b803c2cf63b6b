use Rattle.std.proofs.Common.{take}
use Rattle.fb_library.specs.Seen.{Opens}
use Rattle.fb_library.proofs.seen.open_new.Given as goal

abbrev pub invariant-loop-name : goal.invariant-loop-name
invariant-loop-name l = Opens (take l.name-index l.names) l.initial.seen.keys l.initial.pending.items l.seen.keys l.pending.items
