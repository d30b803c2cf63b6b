use Rattle.std.proofs.Common.{◌≡◌, ◌++◌, take}
use Rattle.fb_iface.proofs.repeats.add_names.Given as goal

abbrev pub invariant-loop-used : goal.invariant-loop-used
invariant-loop-used l = l.names.items ≡ l.initial.names.items ++ take l.used-index l.uses
