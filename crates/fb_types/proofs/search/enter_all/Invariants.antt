use Rattle.std.proofs.Common.{◌≡◌, ◌++◌, take}
use Rattle.fb_types.specs.Steps.{enters}
use Rattle.fb_types.proofs.search.enter_all.Given as goal

abbrev pub invariant-loop-name : goal.invariant-loop-name
invariant-loop-name l = l.steps.items ≡ l.initial.steps.items ++ enters (take l.name-index l.names)
