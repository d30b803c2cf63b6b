use Rattle.std.proofs.Common.{◌≡◌, ℕ, List, ◌++◌, map, nat_eq, take}
use Rattle.std.specs.{Cmp.Lexicographic.{pointwise}, HashSet.{contains}}
use Rattle.fb_iface.specs.{Fault.{faults_at}, Names.{has_name}, declared.code.Code.TheVariants.{Duplicate}}
use Rattle.fb_iface.proofs.RepeatLemmas.{repeated_among}
use Rattle.fb_iface.proofs.repeats.report_among_many.Given as goal

abbrev pub invariant-loop-declaration : goal.invariant-loop-declaration
invariant-loop-declaration g l = record {
  reported : l.found.items ≡ l.initial.found.items ++ faults_at Duplicate (repeated_among l.declaration-index (map g.T.Named.name_of l.declarations));
  noted : (q : List ℕ) → contains (pointwise nat_eq) l.seen q ≡ has_name (take l.declaration-index (map g.T.Named.name_of l.declarations)) q;
}
