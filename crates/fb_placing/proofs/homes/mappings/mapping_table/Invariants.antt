-- The table has the mappings passed so far.
use Rattle.std.proofs.Common.{◌≡◌, ℕ, List, take}
use Rattle.std.specs.HashMap.{get_by_text}
use Rattle.fb_tree.specs.Tree.{mapping_tree}
use Rattle.fb_placing.specs.{FirstEntry.{first_at}, Mappings.{mapping_home, mapping_path}}
use Rattle.fb_placing.proofs.homes.mappings.mapping_table.Given as goal

abbrev pub invariant-loop-mapping : goal.invariant-loop-mapping
invariant-loop-mapping l =
    (q : List ℕ) → get_by_text l.table q
    ≡ first_at (λ m. mapping_path (mapping_tree m)) (λ m. mapping_home (mapping_tree m)) (take l.mapping-index l.mappings) q
