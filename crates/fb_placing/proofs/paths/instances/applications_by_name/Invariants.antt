-- The table has the applications passed so far.
use Rattle.std.proofs.Common.{◌≡◌, ℕ, List, take}
use Rattle.std.specs.{Prelude.{option_map}, HashMap.{get_by_text}}
use Rattle.fb_placing.specs.{FirstEntry.{first_at}, Tables.{instance_at}}
use Rattle.fb_placing.proofs.InstanceLemmas.{called_in}
use Rattle.fb_placing.proofs.paths.instances.applications_by_name.Given as goal

abbrev pub invariant-loop-application : goal.invariant-loop-application
invariant-loop-application l =
    (q : List ℕ) → option_map instance_at (get_by_text l.table q) ≡ first_at (λ a. a.name.name) called_in (take l.application-index l.applications) q
