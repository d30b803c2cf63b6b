-- Laws of homes.
use Rattle.std.specs.Prelude.{ℕ, List}
use Rattle.fb_tree.specs.Tree.{MappingTree}
use Rattle.fb_network.specs.Prefixes.{IsNearest}
use Rattle.fb_placing.specs.Mappings.{home_of, resource_at}

-- the home of a path is the resource of the mapping with the longest path that is this path or a prefix of it
abbrev pub HomesAreNearest : Type 0
HomesAreNearest =
    (mappings : List MappingTree) (path : List ℕ) → IsNearest (resource_at mappings) path (home_of mappings path)
