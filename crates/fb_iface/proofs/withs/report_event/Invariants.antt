use Rattle.std.proofs.Common.{◌≡◌, ◌++◌, not, take}
use Rattle.std.specs.List.{filter}
use Rattle.fb_iface.specs.{Fault.{faults_at}, Names.{stands_for}, Withs.{goes_along}, declared.code.Code.TheVariants.{WithUnknown}}
use Rattle.fb_iface.proofs.withs.report_event.Given as goal

abbrev pub invariant-loop-name : goal.invariant-loop-name
invariant-loop-name l =
    l.found.items ≡ l.initial.found.items ++ faults_at WithUnknown (filter (λ w. not (goes_along l.event.side (stands_for l.own.variables w.name))) (take l.name-index l.event.with.items))
