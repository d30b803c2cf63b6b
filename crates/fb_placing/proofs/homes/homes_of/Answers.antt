-- The homes, or what is misplaced.
use Rattle.std.proofs.Common.{◌≡◌, List, ℕ, Option, ap, ◌∙◌, rules}
use Rattle.std.specs.HashMap.{get_by_text}
use Rattle.fb_library.specs.View.{tree_at}
use Rattle.fb_placing.specs.{Homes.{block_homes, homeless}, Mappings.{resource_at}, Systems.{mappings_in}}
use Rattle.fb_placing.proofs.HousedLemmas.{none_found, some_found}
use Rattle.fb_placing.proofs.homes.homes_of.Goals as goal

pub returns-then-is_empty : goal.returns-then-is_empty
returns-then-is_empty g c =
    let blocks = c.args.flat.now.blocks in
    let tree = tree_at (g.V.View.sources c.args.view.now) c.args.system.now in
    let table : get_by_text c.in_ok-table.table ≡ resource_at (mappings_in tree) = c.in_ok-table.ensures ∙ ap resource_at c.mappings_of.ensures in
    let found = c.in_ok-found.ensures blocks (c.in_ok-unmapped.ensures ∙ ap (λ (at : List ℕ → Option (List ℕ)). homeless at blocks) table) in
    none_found _ _ _ _ found (search rules) (c.in_ok-homes.ensures ∙ ap (λ (at : List ℕ → Option (List ℕ)). block_homes at blocks) table)

pub returns : goal.returns
returns g c =
    let blocks = c.args.flat.now.blocks in
    let tree = tree_at (g.V.View.sources c.args.view.now) c.args.system.now in
    let table : get_by_text c.in_ok-table.table ≡ resource_at (mappings_in tree) = c.in_ok-table.ensures ∙ ap resource_at c.mappings_of.ensures in
    let found = c.in_ok-found.ensures blocks (c.in_ok-unmapped.ensures ∙ ap (λ (at : List ℕ → Option (List ℕ)). homeless at blocks) table) in
    some_found _ _ _ found (search rules)
