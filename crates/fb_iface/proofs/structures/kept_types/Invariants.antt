use Rattle.std.proofs.Common.{◌≡◌, ℕ, List, nat_eq, take}
use Rattle.std.specs.{Cmp.Lexicographic.{pointwise}, HashMap.{get}}
use Rattle.fb_iface.specs.{Fields.{fields_among}, CachedFields.{kept_fields}}
use Rattle.fb_iface.proofs.structures.kept_types.Given as goal

abbrev pub invariant-loop-name : goal.invariant-loop-name
invariant-loop-name g l =
    (q : List ℕ) → kept_fields (get (pointwise nat_eq) l.types q) ≡ fields_among (g.V.View.sources l.view) (take l.name-index l.names) q
