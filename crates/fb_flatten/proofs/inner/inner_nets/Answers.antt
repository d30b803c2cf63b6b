-- What is taken of the map was found there.
use Rattle.std.proofs.{Common.{All, refl, subst, sym, List, ℕ}, lemmas.List.Elements.{All-push}, lemmas.Map.Iter.{btree_map_turn}}
use Rattle.std.specs.{BTreeMap.{get}, Cmp.Lexicographic.{nat_list_cmp_total}}
use Rattle.fb_types.specs.{Network.PlainFlat.{PlainFlat}, Text.Order.{name_cmp}, declared.nets.Net.TheVariants.{Flat}}
use Rattle.fb_flatten.specs.{Inner.{IsCountedFlat}, declared.inner.Inner.{Inner}}
use Rattle.fb_flatten.proofs.inner.inner_nets.Goals as goal

pub loop-unit-preserved-in-Continue-1 : goal.loop-unit-preserved-in-Continue-1
loop-unit-preserved-in-Continue-1 c =
    let flats = get name_cmp c.args.flats in
    let counts = get name_cmp c.args.counts.now in
    let it : Inner = record { unit = c.in-Some.unit; net = Flat c.in-Some.flat } in
    let gives = c.into_iter-unit-iterator.ensures.into_iter_gives in
    let turn =
    btree_map_turn (λ (p : List ℕ × PlainFlat). p) c.loop-unit.yielded c.into_iter-unit-iterator.result c.loop-unit.unit-iterator c.next.new.self c.next.result (c.in-Some.unit, c.in-Some.flat)
    c.loop-unit.yielded_by c.in-Some.is c.next.ensures.steps nat_list_cmp_total c.args.flats gives.0 gives.5 in
    let new : IsCountedFlat flats counts it = record { flat = c.in-Some.flat; found = turn.1; small = c.is_within.ensures c.if-is_within.true; net_is = refl } in
    subst (λ (l : List Inner). All (IsCountedFlat flats counts) l) (sym c.in_ok-push.ensures.items)
    (All-push (IsCountedFlat flats counts) c.loop-unit.nets.items it c.loop-unit.invariant new)
