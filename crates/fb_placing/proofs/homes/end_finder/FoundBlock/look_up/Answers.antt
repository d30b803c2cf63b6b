-- The end is in the block that was looked up.
use Rattle.std.proofs.Common.{◌++◌, ◌∷◌, ◌∙◌, ℕ, List, ap, sym}
use Rattle.fb_placing.specs.HomeTable.{home_by_path}
use Rattle.fb_placing.proofs.ApartLemmas.{homes_inside}
use Rattle.fb_placing.proofs.homes.end_finder.FoundBlock.look_up.Goals as goal

pub returns-clause-home : goal.returns-clause-home
returns-clause-home c =
    let inside = c.in-Some.ensures in
    let block = inside.1 ∙ ap (λ (b : List ℕ). b ++ 46 ∷ inside.0) (sym (c.as_str.ensures.value ∙ c.in_ok-write_both.ensures)) in
    homes_inside (home_by_path c.args.homes.now.by_path) _ _ _ (c.args.homes.now.are_apart c.requires.apart) (inside.0, block) c.home_by_path-self.ensures
