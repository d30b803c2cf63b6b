-- The names passed so far, and no point since the last of them.
use Rattle.std.proofs.Common.{◌≡◌, ◌≤◌, ◌++◌, map, drop}
use Rattle.std.specs.Str.{IsCharBoundary}
use Rattle.fb_placing.specs.Resolved.{path_names}
use Rattle.fb_placing.proofs.PathNameLemmas.{NoPoint}
use Rattle.fb_placing.proofs.paths.names.path_names.Given as goal

abbrev pub invariant-loop-i : goal.invariant-loop-i
invariant-loop-i l = record {
  behind : l.start ≤ l.i;
  boundary : IsCharBoundary l.path l.start;
  none : NoPoint l.path l.start l.i;
  names : path_names l.path ≡ map (λ n. n.now) l.names.items ++ path_names (drop l.start l.path);
}
