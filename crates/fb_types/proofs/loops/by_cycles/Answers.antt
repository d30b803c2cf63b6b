use Rattle.std.proofs.lemmas.Result.{IfOk-weaker}
use Rattle.fb_types.proofs.PartLemmas.{part_of_cycles}
use Rattle.fb_types.proofs.loops.by_cycles.Goals as goal

pub returns : goal.returns
returns g c =
    IfOk-weaker c.those_in.result _ _
    (λ found is. part_of_cycles (g.V.View.sources c.args.view.now) c.args.names.now c.in_ok-graph.graph.names.keys c.in_ok-graph.graph.forth c.in_ok-graph.graph.back c.in_ok-graph.ensures c.in_ok-found.found.keys c.in_ok-found.ensures found.items is)
    c.those_in.ensures
