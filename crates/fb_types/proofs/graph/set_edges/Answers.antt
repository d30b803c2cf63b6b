use Rattle.fb_types.proofs.ExploreLemmas.{edges-updates}
use Rattle.fb_types.proofs.graph.set_edges.Goals as goal

pub returns : goal.returns
returns c = edges-updates c.args.edges.now c.insert.new.self c.args.from c.args.to c.in_ok-insert.ensures.updates
