use Rattle.std.proofs.{Common.{◌≡◌, ◌+◌, ◌∷◌, [], ◌++◌, arith, take}, lemmas.Grind.{common_steps}}
use Rattle.fb_types.proofs.SearchLemmas.{enters_more}
use Rattle.fb_types.proofs.search.enter_all.Goals as goal

pub loop-name-preserved : goal.loop-name-preserved
loop-name-preserved c =
    let names = c.args.names.now in
    let i = c.loop-name.name-index in
    let x = c.name-item.result in
    let more : take (i + 1) names ≡ take i names ++ x ∷ [] = grind (arith, common_steps) in
    rw (more, c.in_ok-push.ensures.items) (enters_more c.args.steps.now.items c.loop-name.steps.items (take i names) x c.loop-name.invariant)
