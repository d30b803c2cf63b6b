use Rattle.std.proofs.Common.{◌≡◌, ◌++◌, take}
use Rattle.std.specs.List.{flat_map}
use Rattle.fb_tree.specs.Tree.{transition_tree}
use Rattle.fb_iface.specs.ScopeTypes.{scope_in}
use Rattle.fb_ecc.specs.Events.{trigger_faults}
use Rattle.fb_ecc.proofs.events.report_triggers.Given as goal

abbrev pub invariant-loop-transition : goal.invariant-loop-transition
invariant-loop-transition l =
    l.found.items ≡ l.initial.found.items ++ flat_map (λ t. trigger_faults (scope_in l.scope) (transition_tree t)) (take l.transition-index l.transitions)
