-- The homes of the blocks of a system depend on the texts alone that declare what is placed.
use Rattle.std.proofs.Common.{ℕ, ◌≡◌, ◌++◌, List, Option, ◌∙◌, ap, map}
use Rattle.fb_tree.specs.{Text.Order.{names_in_order}, Tree.{DeclTree, MappingTree}}
use Rattle.fb_library.specs.View.{Sources, tree_at}
use Rattle.fb_network.specs.declared.flat.FlatBlock.{FlatBlock}
use Rattle.fb_placing.specs.Homes.{PlainHomes, unmatched, block_homes, homeless, homes_of, misplaced, unless_faulty}
use Rattle.fb_placing.specs.declared.homes.Misplaced.TheVariants.{NoSuchBlock, Unmapped}
use Rattle.fb_placing.specs.{Mappings.{mapping_path, names_used, resource_at}, Resolved.{leads_nowhere}, Systems.{applications_in, mappings_in}}
use Rattle.fb_placing.proofs.{ListLemmas.{filter_same}, ResolvedLocal.{SameInstances, nowhere_same, own_tree}}

-- homes of blocks by a tree
abbrev homes_by : Sources → List ℕ → List FlatBlock → Option DeclTree → PlainHomes
homes_by sources system blocks tree = unless_faulty (misplaced sources system tree blocks) (block_homes (resource_at (mappings_in tree)) blocks)

module _ (a b : Sources) (system : List ℕ) (same : SameInstances a b system) where
  astray_same : (mappings : List MappingTree) → unmatched a system (applications_in (tree_at a system)) mappings ≡ unmatched b system (applications_in (tree_at a system)) mappings
  astray_same mappings =
      ap (map mapping_path)
      (filter_same (λ (m : MappingTree). leads_nowhere a system (applications_in (tree_at a system)) (names_used m.path))
      (λ (m : MappingTree). leads_nowhere b system (applications_in (tree_at a system)) (names_used m.path)) mappings
      (λ m. nowhere_same a b system same (names_used m.path)))

  pub homes_same : (blocks : List FlatBlock) → homes_of a system blocks ≡ homes_of b system blocks
  homes_same blocks =
      let tree = tree_at a system in
      ap (λ (paths : List (List ℕ)). unless_faulty (map (λ p. Unmapped p) (names_in_order (homeless (resource_at (mappings_in tree)) blocks)) ++ map (λ p. NoSuchBlock p) (names_in_order paths)) (block_homes (resource_at (mappings_in tree)) blocks)) (astray_same (mappings_in tree))
      ∙ ap (homes_by b system blocks) (own_tree a b system same)
