use Rattle.std.proofs.{Common.{arith}, lemmas.Grind.{common_steps}}
use Rattle.fb_types.proofs.ExploreLemmas.{edge_added}
use Rattle.fb_types.proofs.graph.add_edge.Goals as goal

pub returns : goal.returns
returns c =
    edge_added c.args.edges.now _ c.args.from c.args.to c.or_default.result.now c.push.new.self (grind (arith, common_steps)) c.in_ok-push.ensures.items
    (λ u. grind (arith, common_steps))
