-- The names passed so far are told apart.
use Rattle.std.proofs.Common.{◌≡◌, take}
use Rattle.std.specs.Prelude.{filter}
use Rattle.fb_types.specs.Library.Seen.{has_name}
use Rattle.fb_flatten.specs.Blocking.{is_blocking}
use Rattle.fb_flatten.proofs.blocking.blocking.Given as goal

abbrev pub invariant-loop-name : goal.invariant-loop-name
invariant-loop-name g l = l.found.items ≡ filter (is_blocking (g.V.View.sources l.view) (has_name l.parts.keys)) (take l.name-index l.names)
