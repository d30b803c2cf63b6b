-- A value that is put stands under its name, and is put in the entries too.
use Rattle.std.proofs.{Common.{arith}, lemmas.Grind.{common_steps}}
use Rattle.fb_library.specs.Entries.{entries_of}
use Rattle.fb_library.proofs.{EntryLemmas.{entries_set, entries_insert}, Places.{sorted_put}}
use Rattle.fb_library.proofs.placed.PlacesEntries.put.Goals as goal

pub invariant_of-self : goal.invariant_of-self
invariant_of-self g c =
    let items = c.self.inside.places.items in
    grind (arith, common_steps, entries_set items (record { name = c.args.name; value = c.args.value }) c.in-Ok.at, sorted_put (entries_of items) c.args.name c.args.value.value)

pub returns-in-Ok-clause-ok : goal.returns-in-Ok-clause-ok
returns-in-Ok-clause-ok g c = grind (arith, common_steps, entries_set c.self.inside.places.items (record { name = c.args.name; value = c.args.value }) c.in-Ok.at)

pub invariant_of-self-in-Err : goal.invariant_of-self-in-Err
invariant_of-self-in-Err g c =
    let items = c.self.inside.places.items in
    grind (arith, common_steps, entries_insert items (record { name = c.args.name; value = c.args.value }) c.in-Err.at, sorted_put (entries_of items) c.args.name c.args.value.value)

pub returns-in_ok-insert-in-Err-clause-ok : goal.returns-in_ok-insert-in-Err-clause-ok
returns-in_ok-insert-in-Err-clause-ok g c =
    grind (arith, common_steps, entries_insert c.self.inside.places.items (record { name = c.args.name; value = c.args.value }) c.in-Err.at)
