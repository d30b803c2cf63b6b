-- One more hint.
use Rattle.std.proofs.{Common.{◌≡◌, ◌+◌, ◌++◌, ◌∷◌, [], List, take, arith, subst}, lemmas.Grind.{common_steps}, lemmas.List.{take_all}}
use Rattle.fb_jobs.specs.{declared.kept.hints.Hint.{Hint}, Cached.{AreNetsOf}}
use Rattle.fb_jobs.proofs.CachedLemmas.{no_nets, one_more_net}
use Rattle.fb_jobs.proofs.kept.cached.nets_of.Goals as goal

pub loop-hint-init : goal.loop-hint-init
loop-hint-init c = no_nets c.new-nets.result c.new-nets.ensures.empty

pub loop-hint-preserved : goal.loop-hint-preserved
loop-hint-preserved c =
    let hints = c.args.hints.now in
    let i = c.loop-hint.hint-index in
    let hint = c.hint-item.result in
    let more : take (i + 1) hints ≡ take i hints ++ hint ∷ [] = grind (arith, common_steps) in
    one_more_net (take i hints) (take (i + 1) hints) hint c.loop-hint.nets c.add_net.new.nets more c.loop-hint.invariant c.in_ok-add_net.ensures

pub returns : goal.returns
returns c =
    let whole : take c.loop-hint.hint-index c.args.hints.now ≡ c.args.hints.now = take_all c.loop-hint.hint-index c.args.hints.now c.loop-hint-test.false in
    subst (λ (hints : List Hint). AreNetsOf hints c.loop-hint.nets) whole c.loop-hint.invariant
