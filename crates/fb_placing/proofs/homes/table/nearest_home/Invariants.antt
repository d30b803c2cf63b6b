-- No prefix that ends at a later point stands for anything.
use Rattle.std.proofs.Common.{◌≡◌}
use Rattle.fb_network.specs.Prefixes.{nearest}
use Rattle.fb_placing.specs.HomeTable.{home_by_path}
use Rattle.fb_network.proofs.PrefixLemmas.{nearest_below}
use Rattle.fb_placing.proofs.homes.table.nearest_home.Given as goal

abbrev pub invariant-loop-i : goal.invariant-loop-i
invariant-loop-i l = nearest (home_by_path l.by_path) l.path ≡ nearest_below (home_by_path l.by_path) l.path l.i
