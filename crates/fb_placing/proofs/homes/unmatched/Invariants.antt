-- The paths of the mappings passed so far that are of nothing.
use Rattle.std.proofs.Common.{◌≡◌, take, map}
use Rattle.fb_tree.specs.Tree.{mapping_tree}
use Rattle.fb_library.specs.View.{tree_at}
use Rattle.fb_placing.specs.{Homes.{unmatched}, Resolver.{resolver_of}, Systems.{applications_in}}
use Rattle.fb_placing.proofs.homes.unmatched.Given as goal

abbrev pub invariant-loop-mapping : goal.invariant-loop-mapping
invariant-loop-mapping g l = record {
  resolves : l.resolver ≡ resolver_of (g.V.View.sources l.view) l.system;
  paths : l.paths.items
      ≡ unmatched (g.V.View.sources l.view) l.system (applications_in (tree_at (g.V.View.sources l.view) l.system)) (map mapping_tree (take l.mapping-index l.mappings));
}
