-- Without an empty shelf the entries are the same.
use Rattle.std.proofs.{Common.{◌≡◌, [], ap, sym, subst, ◌∙◌}, lemmas.List.{nil_from_length}}
use Rattle.fb_library.specs.{Entries.{shelf_of, shelves_of, entries_on}, Shelves.{AreShelves}}
use Rattle.fb_library.proofs.ShelfRows.{shelf_cleared, entries_cleared}
use Rattle.fb_library.proofs.shelves.clear_away.Goals as goal

pub returns-then-len-eq0 : goal.returns-then-len-eq0
returns-then-len-eq0 g c =
    let entries = g.E.Entries.entries in
    let ss = c.args.shelves.now.items in
    let here = c.index.result.now in
    let empty : entries here.entries.value ≡ [] = ap entries (sym c.deref.ensures) ∙ nil_from_length (entries c.deref.result.now) (sym c.len.ensures ∙ c.if-len-eq0.true) in
    record {
      order = subst (λ xs. AreShelves (shelves_of entries xs)) (sym c.remove.ensures.items) (shelf_cleared (shelf_of entries) ss c.args.at here c.requires.at c.index.ensures empty c.requires.order);
      same = ap (entries_on entries) c.remove.ensures.items ∙ entries_cleared (shelf_of entries) ss c.args.at here c.requires.at c.index.ensures empty;
    }
