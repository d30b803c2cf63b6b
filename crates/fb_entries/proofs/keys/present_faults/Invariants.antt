use Rattle.std.proofs.Common.{◌≡◌, take}
use Rattle.fb_jobs.specs.declared.keys.key.Kind.TheVariants as kind
use Rattle.fb_entries.proofs.Present.{present}
use Rattle.fb_entries.proofs.keys.present_faults.Given as goal

abbrev pub invariant-loop-unit : goal.invariant-loop-unit
invariant-loop-unit l = l.keys.items ≡ present l.library kind.Faults (take l.unit-index l.units)
