use Rattle.std.proofs.Common.{◌≡◌, ◌++◌, take}
use Rattle.std.specs.List.{flat_map}
use Rattle.fb_index.specs.Users.{users_of}
use Rattle.fb_index.proofs.tables.Tables.add_holders.Given as goal

abbrev pub invariant-loop-name : goal.invariant-loop-name
invariant-loop-name l = l.units.items ≡ l.initial.units.items ++ flat_map (users_of l.self.parts) (take l.name-index l.names)
