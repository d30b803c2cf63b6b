-- The steps of the search.
use Rattle.std.specs.Prelude.{ℕ, List, map}
use Rattle.fb_types.specs.{declared.search.Step.{Step}, declared.search.Step.TheVariants.{Enter}}

-- the steps that enter these names
abbrev pub enters : List (List ℕ) → List Step
enters names = map (λ name. Enter name) names
