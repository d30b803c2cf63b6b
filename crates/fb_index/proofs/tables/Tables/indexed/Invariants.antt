use Rattle.std.proofs.Common.{◌≡◌, filter, take}
use Rattle.fb_index.specs.Indexed.{is_indexed}
use Rattle.fb_index.proofs.tables.Tables.indexed.Given as goal

abbrev pub invariant-loop-name : goal.invariant-loop-name
invariant-loop-name l = l.units.items ≡ filter (is_indexed l.self) (take l.name-index l.names)
