-- The name of the place at the index.
use Rattle.std.proofs.{Common.{length, refl}, lemmas.Option.{slice_get_read, slice_get_past}}
use Rattle.fb_library.proofs.EntryLemmas.{name_there}
use Rattle.fb_library.proofs.placed.PlacesEntries.name_at.Goals as goal

pub returns-in-Some : goal.returns-in-Some
returns-in-Some g c =
    let places = c.deref.result.now in
    let found = c.in-Some.ensures.lookup in
    rw (← c.self.view_is, ← c.deref.ensures.value, name_there places c.args.index, slice_get_read places (length places) c.args.index c.in-Some.placed.now refl found.3.0 found.1)

pub returns-in-None : goal.returns-in-None
returns-in-None g c =
    let places = c.deref.result.now in
    rw (← c.self.view_is, ← c.deref.ensures.value, name_there places c.args.index, slice_get_past places c.args.index c.in-None.ensures.lookup.3)
