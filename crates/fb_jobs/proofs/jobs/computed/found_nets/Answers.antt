-- One net more.
use Rattle.std.proofs.{Common.{sym, ap, subst, ◌∙◌, length, All}, lemmas.Iterator.Adapters.{YieldsList-from_vec}, lemmas.Iterator.Consumers.{YieldsList-turn}}
use Rattle.std.proofs.lemmas.List.Elements.{All-contains, All-push, Contains-get_or}
use Rattle.std.specs.Prelude.{Contains}
use Rattle.fb_deploy.specs.{Flatten.Inner.{IsInnerNet}, Flatten.declared.inner.Inner.{Inner}}
use Rattle.fb_jobs.specs.{Keys.{net_finding}, Values.{finding_of}, Work.{IsFoundIn}}
use Rattle.fb_jobs.proofs.jobs.computed.found_nets.Goals as goal

pub loop-it-preserved : goal.loop-it-preserved
loop-it-preserved c sources unit rights =
    let it = c.in-Some.it in
    let all = c.args.inner.items in
    let gives = c.into_iter-it-iterator.ensures.into_iter_gives in
    let turn = YieldsList-turn (YieldsList-from_vec all gives.0 (gives.1 ∙ c.args.inner.ok.0)) c.loop-it.yielded c.loop-it.it-iterator c.loop-it.yielded_by c.next.result c.next.new.self it c.in-Some.is c.next.ensures.steps in
    let among : Contains all it = subst (λ (h : Inner). Contains all h) (sym turn.1) (Contains-get_or all (length c.loop-it.yielded) it turn.0) in
    let right = All-contains (IsInnerNet sources unit) all it rights among in
    subst (All (IsFoundIn sources unit)) (sym c.in_ok-push.ensures.items)
    (All-push (IsFoundIn sources unit) c.loop-it.found.items _ (c.loop-it.invariant sources unit rights)
    (record { below = right.below; net_is = ap finding_of c.in_ok-new.ensures.ok ∙ ap net_finding (sym right.net_is) }))
