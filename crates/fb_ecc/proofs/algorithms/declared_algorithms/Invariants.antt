use Rattle.std.proofs.Common.{◌≡◌, ℕ, List, map, take, nat_eq}
use Rattle.std.specs.{HashSet.{contains}, Cmp.Lexicographic.{pointwise}}
use Rattle.fb_iface.specs.Names.{has_name}
use Rattle.fb_ecc.proofs.algorithms.declared_algorithms.Given as goal

abbrev pub invariant-loop-algorithm : goal.invariant-loop-algorithm
invariant-loop-algorithm l =
    (name : List ℕ) → contains (pointwise nat_eq) l.declared name ≡ has_name (map (λ a. a.name) (take l.algorithm-index l.algorithms)) name
