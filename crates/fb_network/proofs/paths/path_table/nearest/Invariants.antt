-- No prefix that ends at a later point stands for anything.
use Rattle.std.proofs.Common.{◌≡◌}
use Rattle.std.specs.HashMap.{get_by_text}
use Rattle.fb_network.specs.Prefixes.{nearest}
use Rattle.fb_network.proofs.PrefixLemmas.{nearest_below}
use Rattle.fb_network.proofs.paths.path_table.nearest.Given as goal

abbrev pub invariant-loop-i : goal.invariant-loop-i
invariant-loop-i l = nearest (get_by_text l.table) l.path ≡ nearest_below (get_by_text l.table) l.path l.i
