use Rattle.std.proofs.Common.{◌≡◌, ◌++◌, map, take}
use Rattle.std.specs.HashSet.{contains}
use Rattle.fb_netcheck.specs.Paths.{fault_at_path, has_path}
use Rattle.fb_netcheck.proofs.RepeatLemmas.{Key, repeated_among, same_key}
use Rattle.fb_netcheck.proofs.paths.report_repeated.Given as goal

abbrev pub invariant-loop-item : goal.invariant-loop-item
invariant-loop-item g l = record {
  reported : l.found.items ≡ l.initial.found.items ++ map (fault_at_path l.code) (repeated_among l.item-index (map g.T.Placed.path_of l.items));
  noted : (q : Key) → contains same_key l.seen q ≡ has_path (take l.item-index (map g.T.Placed.path_of l.items)) q.items;
}
