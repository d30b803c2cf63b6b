use Rattle.std.proofs.Common.{◌≡◌, ◌+◌, ◌<◌, ap, sym, ◌∙◌, arith, length, take, ◌∷◌, [], ◌++◌}
use Rattle.std.proofs.lemmas.{Grind.{common_steps}, List.{take_more}}
use Rattle.fb_netcheck.specs.Repeats.{second_sources}
use Rattle.fb_netcheck.proofs.AgainLemmas.{sources-push}
use Rattle.fb_netcheck.proofs.repeats.report_sources.Goals as goal

pub loop-i-preserved : goal.loop-i-preserved
loop-i-preserved c =
    let all = c.args.connections.now in
    let i = c.loop-i.i in
    let x = c.index-connections-i.result in
    let inside : i < length all = omega arith in
    let more : take (i + 1) all ≡ take i all ++ x ∷ [] = take_more all i x inside ∙ ap (λ y. take i all ++ y ∷ []) (sym c.index-connections-i.is) in
    let pushed = ap second_sources more ∙ sources-push (take i all) x in
    grind (arith, common_steps, pushed, c.loop-i.invariant)
