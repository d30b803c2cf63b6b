-- The last shelf is longer, or there is one more.
use Rattle.std.proofs.Common.{◌≡◌, List, [], ◌∷◌, ◌++◌, ◌-◌, suc, length, refl, ap, ◌∙◌, arith}
use Rattle.fb_library.specs.{Entries.{shelf_of}, declared.shelves.Shelf.{Shelf}}
use Rattle.fb_library.proofs.ShelfRows.{ended, more_shelves}
use Rattle.fb_library.proofs.shelves.reach.Goals as goal

pub returns-then-not-is_full : goal.returns-then-not-is_full
returns-then-not-is_full g c =
    let last = c.index_mut.result.now in
    let end : suc (c.len-count.result - 1) ≡ length c.args.shelves.now.items = omega arith in
    let is = ended (shelf_of g.E.Entries.entries) c.args.shelves.now.items c.args.name c.requires.order c.requires.past (c.len-count.result - 1) last (record { last = c.args.name; entries = last.entries }) end c.index_mut.ensures.value refl refl in
    record { order = is.order; same = is.same; room = is.room }

pub returns : goal.returns
returns g c =
    let more : Shelf g.row.E.Denot = record { last = c.args.name; entries = c.in_ok-entries.entries } in
    let pushed = c.in_ok-push.ensures.items ∙ ap (λ (xs : List (Shelf g.row.E.Denot)). xs ++ more ∷ []) c.reserve_exact.ensures.items in
    let is = more_shelves (shelf_of g.E.Entries.entries) c.args.shelves.now.items c.args.name c.requires.order c.requires.past c.push.new.self.items more pushed refl (ap g.E.Entries.entries c.in_ok-entries.ensures.ok ∙ c.new.ensures) in
    record { order = is.order; same = is.same; room = is.room }
