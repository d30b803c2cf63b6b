-- The next place is of the name, or the name is looked for.
use Rattle.std.proofs.Common.{◌≡◌, true, ◌∙◌, ap, sym, subst, arith}
use Rattle.std.specs.Ordering.{is_eq}
use Rattle.fb_parse.specs.Text.Order.{name_cmp}
use Rattle.fb_library.specs.declared.placed.Placed.{Placed}
use Rattle.fb_parse.proofs.Text.OrderLemmas.{is_equal}
use Rattle.fb_library.proofs.{EntryLemmas.{named_there}, Names.{exact_name}}
use Rattle.fb_library.proofs.placed.place_near.Goals as goal

pub returns-then-is_eq-clause-found : goal.returns-then-is_eq-clause-found
returns-then-is_eq-clause-found g c =
    let placed = c.index-places-next.result in
    let same = exact_name placed.name c.args.name.now (is_equal (name_cmp placed.name c.args.name.now) (subst (λ (p : Placed g.row.V.Denot). is_eq (name_cmp p.name c.args.name.now) ≡ true) (sym c.index-places-next.is) (ap is_eq (sym c.cmp.ensures) ∙ sym c.is_eq.ensures ∙ c.if-is_eq.true))) in
    named_there c.args.places.now c.args.name.now c.saturating_add-next.result placed (omega arith) c.index-places-next.is same
