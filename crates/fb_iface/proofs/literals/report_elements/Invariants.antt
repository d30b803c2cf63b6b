use Rattle.std.proofs.Common.{◌≡◌, ◌++◌, take}
use Rattle.fb_iface.specs.Literals.{misfits}
use Rattle.fb_iface.proofs.literals.report_elements.Given as goal

abbrev pub invariant-loop-value : goal.invariant-loop-value
invariant-loop-value l =
    l.found.items ≡ l.initial.found.items ++ misfits l.class (take l.value-index l.values)
