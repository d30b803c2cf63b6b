-- The homes of the blocks of a system, and what is misplaced (IEC 61499-1, clause 7: system configurations).
use Rattle.std.specs.{Prelude.{ℕ, List, [], ◌∷◌, ◌++◌, map, filter, Option, is_none, option_map}, List.{filter_map}}
use Rattle.fb_tree.specs.{Text.Order.{names_in_order}, Tree.{ApplicationTree, DeclTree, MappingTree}}
use Rattle.fb_library.specs.View.{Sources, tree_at}
use Rattle.fb_network.specs.{declared.flat.FlatBlock.{FlatBlock}, Prefixes.{nearest}}
use Rattle.fb_placing.specs.{declared.homes.Home.{Home}, declared.homes.Homes.{Homes}, declared.homes.Misplaced.{Misplaced}}
use Rattle.fb_placing.specs.{declared.homes.Misplaced.TheVariants.{Unmapped, NoSuchBlock}, Mappings.{mapping_path, names_used, resource_at}}
use Rattle.fb_placing.specs.{Resolved.{leads_nowhere}, Systems.{applications_in, mappings_in}}
use Rattle.fb_placing.specs.declared.homes.Homes.TheVariants as homes

-- homes, or what is misplaced
pub data PlainHomes : Type 0 where
  faulty_homes : List Misplaced → PlainHomes
  all_homes : List Home → PlainHomes

-- the homes of the program as plain values, without their place in memory
abbrev pub plain_homes : Homes → PlainHomes
plain_homes (homes.Faulty found) = faulty_homes found.items
plain_homes (homes.On list) = all_homes list.items

abbrev pub block_home : (List ℕ → Option (List ℕ)) → FlatBlock → Option Home
block_home resources block = option_map (λ r. record { path = block.path; resource = r }) (nearest resources block.path)

-- the homes of blocks, in the order of the blocks, by the resources to which paths are mapped
abbrev pub block_homes : (List ℕ → Option (List ℕ)) → List FlatBlock → List Home
block_homes resources blocks = filter_map (block_home resources) blocks

-- the paths of blocks without a home
abbrev pub homeless : (List ℕ → Option (List ℕ)) → List FlatBlock → List (List ℕ)
homeless resources blocks = map (λ b. b.path) (filter (λ b. is_none (nearest resources b.path)) blocks)

-- the paths of mappings that lead nowhere
abbrev pub unmatched : Sources → List ℕ → List ApplicationTree → List MappingTree → List (List ℕ)
unmatched sources system applications mappings =
    map mapping_path (filter (λ m. leads_nowhere sources system applications (names_used m.path)) mappings)

-- blocks that no mapping places, then mappings that place nothing, each sorted by the bytes of the paths
abbrev pub misplaced : Sources → List ℕ → Option DeclTree → List FlatBlock → List Misplaced
misplaced sources system tree blocks =
    map (λ p. Unmapped p) (names_in_order (homeless (resource_at (mappings_in tree)) blocks))
    ++ map (λ p. NoSuchBlock p) (names_in_order (unmatched sources system (applications_in tree) (mappings_in tree)))

abbrev pub unless_faulty : List Misplaced → List Home → PlainHomes
unless_faulty [] list = all_homes list
unless_faulty (m ∷ ms) list = faulty_homes (m ∷ ms)

-- the homes of the blocks of a system, if nothing is misplaced
abbrev pub homes_of : Sources → List ℕ → List FlatBlock → PlainHomes
homes_of sources system blocks =
    unless_faulty (misplaced sources system (tree_at sources system) blocks) (block_homes (resource_at (mappings_in (tree_at sources system))) blocks)
