-- What the applications hold, put in order, is the flat network of the system.
use Rattle.std.proofs.{Common.{take}, lemmas.List.{take_all}, lemmas.Result.{IfOk-weaker}}
use Rattle.fb_network.proofs.SystemLemmas.{applications_laid, applications_more, applications_none, system_is}
use Rattle.fb_network.proofs.composition.system.join.Goals as goal

pub loop-application-init : goal.loop-application-init
loop-application-init c = applications_none c.new-draft.result c.new-draft.ensures.leaves c.new-draft.ensures.joins

pub loop-application-preserved : goal.loop-application-preserved
loop-application-preserved c =
    applications_more c.loop-application.draft c.take_in.new.draft c.args.applications.now c.loop-application.application-index c.application-item.result c.in_ok-take_in.field-0.items
    c.loop-application-test.true c.application-item.is c.loop-application.invariant c.in_ok-take_in.ensures

pub finish-requires : goal.finish-requires
finish-requires c = applications_laid c.loop-application.draft (take c.loop-application.application-index c.args.applications.now) c.new.result.items c.loop-application.invariant c.new.ensures.items

pub returns : goal.returns
returns c =
    let holds = rw (take_all c.loop-application.application-index c.args.applications.now c.loop-application-test.false) at c.loop-application.invariant in
    IfOk-weaker c.finish.result _ _ (λ flat is. system_is c.loop-application.draft c.args.applications.now c.new.result.items flat holds c.new.ensures.items is) c.finish.ensures
