use Rattle.std.proofs.{Common.{◌≡◌, ◌+◌, ◌∷◌, [], ◌++◌, arith, take}, lemmas.Grind.{common_steps}}
use Rattle.fb_library.proofs.SeenLemmas.{Opens-none, Opens-new, Opens-old, has-updates}
use Rattle.fb_library.proofs.seen.open_new.Goals as goal

pub loop-name-init : goal.loop-name-init
loop-name-init c = Opens-none _ _

pub loop-name-preserved : goal.loop-name-preserved
loop-name-preserved c =
    let names = c.args.names.now in
    let i = c.loop-name.name-index in
    let x = c.name-item.result in
    let more : take (i + 1) names ≡ take i names ++ x ∷ [] = grind (arith, common_steps) in
    let adds = has-updates c.loop-name.seen c.insert.new.self x c.in_ok-insert.ensures.updates in
    rw more (grind (arith, common_steps, Opens-new _ _ _ _ _ _ x c.loop-name.invariant adds, Opens-old _ _ _ _ _ _ x c.loop-name.invariant adds))
