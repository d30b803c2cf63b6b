-- None of the names passed so far is absent.
use Rattle.std.proofs.Common.{◌≡◌, false, take, is_none}
use Rattle.std.specs.{FinMap.{get}, List.{list_any}}
use Rattle.fb_flatten.proofs.suspects.has_absent.Given as goal

abbrev pub invariant-loop-name : goal.invariant-loop-name
invariant-loop-name g l = list_any (λ n. is_none (get (g.V.View.sources l.view) n)) (take l.name-index l.names) ≡ false
