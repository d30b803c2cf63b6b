use Rattle.std.proofs.Common.{◌≡◌, ◌++◌, take}
use Rattle.std.specs.List.{flat_map}
use Rattle.fb_iface.specs.ScopeTypes.{scope_in}
use Rattle.fb_ecc.specs.Events.{sent_faults}
use Rattle.fb_ecc.proofs.events.report_sent_by.Given as goal

abbrev pub invariant-loop-action : goal.invariant-loop-action
invariant-loop-action l =
    l.found.items ≡ l.initial.found.items ++ flat_map (sent_faults (scope_in l.scope)) (take l.action-index l.actions)
