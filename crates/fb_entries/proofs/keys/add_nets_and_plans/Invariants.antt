use Rattle.std.proofs.Common.{◌≡◌, ◌++◌, take}
use Rattle.fb_jobs.specs.declared.keys.key.Kind.TheVariants as kind
use Rattle.fb_entries.proofs.Present.{present}
use Rattle.fb_entries.proofs.keys.add_nets_and_plans.Given as goal

abbrev pub invariant-loop-unit : goal.invariant-loop-unit
invariant-loop-unit l =
    (l.nets.items ≡ l.initial.nets.items ++ present l.library kind.Net (take l.unit-index l.units))
    × (l.plans.items ≡ l.initial.plans.items ++ present l.library kind.Deploy (take l.unit-index l.units))
