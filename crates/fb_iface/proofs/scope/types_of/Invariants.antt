use Rattle.std.proofs.Common.{◌≡◌, ℕ, List, map, take, nat_eq, option_map}
use Rattle.std.specs.{Cmp.Lexicographic.{pointwise}, HashMap.{get}}
use Rattle.fb_tree.specs.Tree.{instance_tree}
use Rattle.fb_iface.specs.{Scope.{mentioned_type}, ScopeTypes.{kept_of}}
use Rattle.fb_iface.proofs.scope.types_of.Given as goal

abbrev pub invariant-loop-instance : goal.invariant-loop-instance
invariant-loop-instance g l =
    (q : List ℕ) → get (pointwise nat_eq) l.types q ≡ option_map kept_of (mentioned_type (g.V.View.sources l.view) (map instance_tree (take l.instance-index l.instances)) q)
