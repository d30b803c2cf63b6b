use Rattle.std.proofs.Common.{◌≡◌, ℕ, List, map, take, nat_eq}
use Rattle.std.specs.{HashSet.{contains}, Cmp.Lexicographic.{pointwise}}
use Rattle.fb_iface.specs.Names.{has_name}
use Rattle.fb_ecc.proofs.states.listed_states.Given as goal

abbrev pub invariant-loop-state : goal.invariant-loop-state
invariant-loop-state l =
    (name : List ℕ) → contains (pointwise nat_eq) l.listed name ≡ has_name (map (λ s. s.name) (take l.state-index l.states)) name
