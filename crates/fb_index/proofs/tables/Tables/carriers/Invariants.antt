use Rattle.std.proofs.Common.{◌+◌, [], length, take}
use Rattle.std.specs.List.{flat_map}
use Rattle.fb_library.specs.Seen.{Opens, unseen}
use Rattle.fb_library.proofs.WalkLemmas.{IsWalk}
use Rattle.fb_index.specs.{Near.{carrying_on}, Users.{users_of}}
use Rattle.fb_index.proofs.Walks.{all_users}
use Rattle.fb_index.proofs.tables.Tables.carriers.Given as goal

abbrev pub invariant-loop-name : goal.invariant-loop-name
invariant-loop-name l = Opens (flat_map (users_of l.self.of_values) (take l.name-index l.names)) [] [] l.seen.keys l.pending.items

abbrev pub invariant-loop-name-2 : goal.invariant-loop-name-2
invariant-loop-name-2 l = IsWalk (carrying_on l.self) (flat_map (users_of l.self.of_values) l.fn.names) l.seen.keys l.pending.items

abbrev pub decreases-loop-name-2 : goal.decreases-loop-name-2
decreases-loop-name-2 l = unseen l.seen.keys (all_users l.self.of_values) + length l.pending.items
