-- What stands at the place is found under the name, and nothing is found where there is a gap.
use Rattle.std.proofs.{Common.{arith}, lemmas.Grind.{common_steps}}
use Rattle.fb_library.specs.Entries.{entries_of}
use Rattle.fb_library.proofs.{EntryLemmas.{value_there}, Places.{lookup_in_gap}}
use Rattle.fb_library.proofs.placed.PlacesEntries.get_near.Goals as goal

pub place_near-requires : goal.place_near-requires
place_near-requires g c = rw c.as_slice-places.ensures.value c.self.invariant

pub returns-in-Ok : goal.returns-in-Ok
returns-in-Ok g c = grind (arith, common_steps, value_there c.as_slice-places.result.now c.args.name.now c.in-Ok.at c.index-places-at.result)

pub returns-in-Err : goal.returns-in-Err
returns-in-Err g c = grind (arith, common_steps, lookup_in_gap (entries_of c.as_slice-places.result.now) c.args.name.now c.in-Err.field-0)
