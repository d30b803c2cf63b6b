use Rattle.std.proofs.Common.{◌≡◌, ◌++◌, take}
use Rattle.std.specs.List.{flat_map}
use Rattle.fb_tree.specs.Tree.{state_tree}
use Rattle.fb_iface.specs.ScopeTypes.{scope_in}
use Rattle.fb_ecc.specs.Events.{sent_faults}
use Rattle.fb_ecc.proofs.events.report_sent.Given as goal

abbrev pub invariant-loop-state : goal.invariant-loop-state
invariant-loop-state l =
    l.found.items ≡ l.initial.found.items ++ flat_map (λ s. flat_map (sent_faults (scope_in l.scope)) (state_tree s).actions) (take l.state-index l.states)
