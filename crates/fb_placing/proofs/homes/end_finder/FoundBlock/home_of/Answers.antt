-- The end is in the block that was found.
use Rattle.std.proofs.Common.{◌++◌, ◌∷◌, ◌∙◌, ℕ, List, ap}
use Rattle.fb_placing.specs.HomeTable.{home_by_path}
use Rattle.fb_placing.proofs.ApartLemmas.{home_inside}
use Rattle.fb_placing.proofs.homes.end_finder.FoundBlock.home_of.Goals as goal

pub returns-then-stands_in : goal.returns-then-stands_in
returns-then-stands_in c =
    let inside = c.stands_in.ensures c.if-stands_in.true in
    let block = inside.1 ∙ ap (λ (b : List ℕ). b ++ 46 ∷ inside.0) c.as_str.ensures.value in
    home_inside (home_by_path c.args.homes.now.by_path) _ _ _ (c.args.homes.now.are_apart c.requires.apart) (inside.0, block) (c.requires.found c.in_ok-home.home c.in_ok-home.was)
