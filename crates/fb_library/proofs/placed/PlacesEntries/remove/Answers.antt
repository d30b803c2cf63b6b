-- The name is gone from its place, and from the entries too.
use Rattle.std.proofs.{Common.{arith}, lemmas.Grind.{common_steps}}
use Rattle.std.specs.BTreeMap.{is_at}
use Rattle.fb_parse.specs.Text.Order.{name_cmp}
use Rattle.fb_library.specs.Entries.{entries_of}
use Rattle.fb_library.proofs.{EntryLemmas.{entries_remove}, Places.{lookup_in_gap, nothing_removed, sorted_removed}}
use Rattle.fb_library.proofs.placed.PlacesEntries.remove.Goals as goal

pub invariant_of-self : goal.invariant_of-self
invariant_of-self g c =
    let items = c.self.inside.places.items in
    grind (arith, common_steps, entries_remove items c.args.name.now c.in-Ok.at, sorted_removed (is_at (name_cmp c.args.name.now)) (entries_of items))

pub returns-in-Ok-clause-ok : goal.returns-in-Ok-clause-ok
returns-in-Ok-clause-ok g c = grind (arith, common_steps, entries_remove c.self.inside.places.items c.args.name.now c.in-Ok.at)

pub returns-in_default-clause-ok : goal.returns-in_default-clause-ok
returns-in_default-clause-ok g c =
    let entries = entries_of c.self.inside.places.items in
    let name = c.args.name.now in
    grind (arith, common_steps, lookup_in_gap entries name c.in_default.field-0, nothing_removed entries (is_at (name_cmp name)))
