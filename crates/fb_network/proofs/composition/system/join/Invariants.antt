-- The draft has what the applications passed so far hold.
use Rattle.std.proofs.Common.{take}
use Rattle.fb_network.proofs.SystemLemmas.{HoldsApplications}
use Rattle.fb_network.proofs.composition.system.join.Given as goal

abbrev pub invariant-loop-application : goal.invariant-loop-application
invariant-loop-application l = HoldsApplications l.draft (take l.application-index l.applications)
