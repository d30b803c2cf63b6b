use Rattle.std.proofs.{Common.{◌≡◌, ◌-◌, true, sym, ◌∙◌, arith}, lemmas.List.{get_or_default}, lemmas.List.Sorted.{all_adjacent_more}}
use Rattle.std.specs.{declared.cmp.Ordering.{Ordering}, declared.cmp.Ordering.TheVariants.{Less}, Ordering.{is_lt}}
use Rattle.fb_network.specs.{Laid.{link_at}, LinkOrder.{link_cmp, link_cmp_total}, declared.flat.entries.Join.{Join}}
use Rattle.fb_tree.specs.declared.network.Sort.TheVariants.{Event}
use Rattle.fb_network.proofs.{SortedOnce.{risen_once}}
use Rattle.fb_network.proofs.flat.order.joins_rise.Goals as goal

is_less : (r : Ordering) → is_lt r ≡ true → r ≡ Less
is_less r e = grind arith

pub returns : goal.returns
returns c = λ yes. risen_once (link_at c.args.prefixes.now) link_cmp link_cmp_total c.args.joins.now (λ k d h. c.loop-i.invariant k d (omega arith))

pub loop-i-preserved : goal.loop-i-preserved
loop-i-preserved c =
    let says = link_at c.args.prefixes.now in
    let joins = c.args.joins.now in
    let i = c.loop-i.i in
    let none : Join = record { sort = Event; from = record { prefix = 0; end = 0 }; to = record { prefix = 0; end = 0 } } in
    all_adjacent_more joins (λ x y. link_cmp (says x) (says y) ≡ Less) i c.loop-i.auto.i c.loop-i.invariant
    (λ d. (λ k. link_cmp (says (get_or_default joins (i - 1) d none (omega (arith, c.loop-i-test.true)) k)) (says (get_or_default joins i d none c.loop-i-test.true k)))
    ∙ sym c.compare_joins.ensures
    ∙ is_less _ (sym c.is_lt.ensures ∙ c.if-not-is_lt.false))
