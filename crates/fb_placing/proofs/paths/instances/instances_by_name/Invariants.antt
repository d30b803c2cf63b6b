-- The table has the instances passed so far.
use Rattle.std.proofs.Common.{◌≡◌, ℕ, List, take}
use Rattle.fb_tree.specs.Tree.{instance_tree}
use Rattle.fb_placing.specs.{FirstEntry.{first_at}, Tables.{instance_at}}
use Rattle.fb_placing.proofs.paths.instances.instances_by_name.Given as goal

abbrev pub invariant-loop-instance : goal.invariant-loop-instance
invariant-loop-instance l =
    (q : List ℕ) → instance_at l.table q ≡ first_at (λ i. i.name.name) instance_tree (take l.instance-index l.instances) q
