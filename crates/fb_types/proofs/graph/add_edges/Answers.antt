use Rattle.std.proofs.{Common.{◌≡◌, ◌+◌, ◌∷◌, [], ◌++◌, arith, take}, lemmas.Grind.{common_steps}}
use Rattle.fb_types.proofs.ExploreLemmas.{edge_more}
use Rattle.fb_types.proofs.graph.add_edges.Goals as goal

pub loop-name-preserved : goal.loop-name-preserved
loop-name-preserved c =
    let from = c.args.from.now in
    let i = c.loop-name.name-index in
    let x = c.name-item.result in
    let more : take (i + 1) from ≡ take i from ++ x ∷ [] = grind (arith, common_steps) in
    λ u v. rw more (edge_more c.args.edges.now c.loop-name.edges c.add_edge.new.edges (take i from) x c.args.to c.in_ok-add_edge.ensures c.loop-name.invariant u v)
