use Rattle.fb_types.specs.Graph.{edges_at}
use Rattle.fb_types.proofs.DecidedLemmas.{IsDecided-begin, found_of_decided}
use Rattle.fb_types.proofs.cycles.cycles.Goals as goal

pub decide_all-requires-clause-decided : goal.decide_all-requires-clause-decided
decide_all-requires-clause-decided c =
    IsDecided-begin (edges_at c.args.graph.forth) c.args.graph.names.keys c.new-found.result.keys c.requires.outside c.new-found.ensures.empty

pub returns : goal.returns
returns c =
    found_of_decided (edges_at c.args.graph.forth) c.args.names.now _ _ _ c.in_ok-decide_all-2.ensures.decided c.in_ok-decide_all-2.ensures.these
