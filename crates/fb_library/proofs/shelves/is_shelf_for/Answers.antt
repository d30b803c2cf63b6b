-- The last names rise, so only the shelf before this one needs a look.
use Rattle.std.proofs.Common.{◌≡◌, ◌-◌, true, false, get_or, ap, sym, subst, ◌∙◌, arith}
use Rattle.std.specs.Ordering.{is_lt}
use Rattle.fb_parse.specs.Text.Order.{name_cmp}
use Rattle.fb_library.specs.{Entries.{shelf_of}, declared.shelves.Shelf.{Shelf}}
use Rattle.fb_library.proofs.{OnShelves.{is_below, not_below}, ShelfRows.{shelf_next}}
use Rattle.fb_library.proofs.shelves.is_shelf_for.Goals as goal

pub returns-then-at-eq0 : goal.returns-then-at-eq0
returns-then-at-eq0 g c = λ t.
    let shelf = c.index-shelves-at.result in
    let up_to = not_below shelf.last c.args.name.now (subst (λ (s : Shelf g.row.E.Denot). is_lt (name_cmp s.last c.args.name.now) ≡ false) (sym c.index-shelves-at.is) (ap is_lt (sym c.cmp.ensures) ∙ sym c.is_lt.ensures ∙ c.if-is_lt.false)) in
    shelf_next (shelf_of g.E.Entries.entries) c.args.shelves.now c.args.name.now c.args.at shelf shelf c.requires (omega arith) c.index-shelves-at.is up_to (λ j e. absurd (omega (arith, e)))

pub returns-else-at-eq0 : goal.returns-else-at-eq0
returns-else-at-eq0 g c = λ t.
    let shelf = c.index-shelves-at.result in
    let before = c.index-shelves-at-else-at-eq0.result in
    let up_to = not_below shelf.last c.args.name.now (subst (λ (s : Shelf g.row.E.Denot). is_lt (name_cmp s.last c.args.name.now) ≡ false) (sym c.index-shelves-at.is) (ap is_lt (sym c.cmp.ensures) ∙ sym c.is_lt.ensures ∙ c.if-is_lt.false)) in
    let less = is_below before.last c.args.name.now (subst (λ (s : Shelf g.row.E.Denot). is_lt (name_cmp s.last c.args.name.now) ≡ true) (sym c.index-shelves-at-else-at-eq0.is) (ap is_lt (sym c.cmp-else-at-eq0.ensures) ∙ sym c.is_lt-else-at-eq0.ensures ∙ t)) in
    shelf_next (shelf_of g.E.Entries.entries) c.args.shelves.now c.args.name.now c.args.at shelf before c.requires (omega arith) c.index-shelves-at.is up_to
    (λ j e.
    let there : c.args.at - 1 ≡ j = omega (arith, e) in
    (subst (λ k. before ≡ get_or c.args.shelves.now k before) there c.index-shelves-at-else-at-eq0.is, less))
