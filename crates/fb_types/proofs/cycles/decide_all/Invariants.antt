use Rattle.std.proofs.Common.{take}
use Rattle.fb_types.specs.Graph.{IsDecided, AreDecided, edges_at}
use Rattle.fb_types.proofs.cycles.decide_all.Given as goal

abbrev pub invariant-loop-name : goal.invariant-loop-name
invariant-loop-name l = record {
  decided : IsDecided (edges_at l.forth) l.undecided.keys l.found.keys;
  these : AreDecided (take l.name-index l.names) l.fn.undecided.keys l.undecided.keys;
}
