-- The closure compares a place's name, and the places stand in the order of their names.
use Rattle.std.proofs.{Common.{rules}, lemmas.Fn.{always_returns_same}}
use Rattle.fb_parse.specs.Text.Order.{name_cmp}
use Rattle.fb_library.specs.declared.placed.Placed.{Placed}
use Rattle.fb_library.proofs.{EntryLemmas.{places_named}, Searches.{searched}}
use Rattle.fb_library.proofs.placed.place.Goals as goal

pub returns : goal.returns
returns g c =
    let facts = c.binary_search_by.ensures in
    let by_name = facts.position (λ placed. name_cmp placed.name c.args.name.now) (always_returns_same _ _ _ (λ a r f called. search rules)) in
    let named = places_named c.args.places.now in
    let ends = searched (λ (p : Placed g.row.V.Denot). p.name) c.args.places.now c.args.name.now c.binary_search_by.result (rw named at c.requires) facts.bound by_name in
    record { found = rw named ends.found; absent = rw named ends.absent }
