-- What is there is on a shelf, and is one entry less without it.
use Rattle.std.proofs.{Common.{ap, ◌∙◌, length, arith}, lemmas.Grind.{common_steps}}
use Rattle.std.specs.{Map.{lookup}, BTreeMap.{is_at}}
use Rattle.fb_parse.specs.Text.Order.{name_cmp}
use Rattle.fb_library.specs.Entries.{shelves_of, entries_on}
use Rattle.fb_library.proofs.{Counts.{length_removed}, Places.{nothing_removed}, Tables.{some_found, reaches_found}}
use Rattle.fb_library.proofs.shelves.ShelvesEntries.remove.Goals as goal

pub remove-requires-clause-there : goal.remove-requires-clause-there
remove-requires-clause-there g c =
    let found = some_found (λ it. it.now.value) c.get.result _ c.get.ensures c.if-is_some.ensures in
    reaches_found (shelves_of g.E.Entries.entries c.self.inside.shelves.items) c.args.name.now found.0 c.self.invariant.order (ap (lookup (is_at (name_cmp c.args.name.now))) c.self.view_is ∙ found.1)

pub invariant_of-self-then-is_some : goal.invariant_of-self-then-is_some
invariant_of-self-then-is_some g c =
    let found = some_found (λ it. it.now.value) c.get.result _ c.get.ensures c.if-is_some.ensures in
    let before = entries_on g.E.Entries.entries c.self.inside.shelves.items in
    let fewer = length_removed before (is_at (name_cmp c.args.name.now)) found.0 (ap (lookup (is_at (name_cmp c.args.name.now))) c.self.view_is ∙ found.1) in
    record { order = c.in_ok-remove.ensures.order; counted = omega (arith, fewer, c.self.invariant.counted, ap length c.in_ok-remove.ensures.ok) }

pub returns-else-is_some-clause-ok : goal.returns-else-is_some-clause-ok
returns-else-is_some-clause-ok g c = grind (arith, common_steps, nothing_removed c.args.self.now (is_at (name_cmp c.args.name.now)))
