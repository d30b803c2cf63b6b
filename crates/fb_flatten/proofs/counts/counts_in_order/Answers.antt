-- The next name is counted by the counts of those before it.
use Rattle.std.proofs.{Common.{◌≡◌, None, sym, take}, lemmas.List.{take_all}}
use Rattle.std.specs.BTreeMap.{get}
use Rattle.fb_types.specs.Text.Order.{name_cmp}
use Rattle.fb_flatten.proofs.CountLemmas.{counted_more, next_counted, right_more}
use Rattle.fb_types.proofs.{TableLemmas.{further}, Text.Members.{contains_nothing}, Network.EmptyMaps.{nothing_at}}
use Rattle.fb_flatten.proofs.counts.counts_in_order.Goals as goal

pub loop-name-init : goal.loop-name-init
loop-name-init g c = record {
  all = λ name h kind. absurd (contains_nothing name h);
  right = λ name count found. absurd (let none : get name_cmp c.new-counts.result name ≡ None = nothing_at c.new-counts.result name c.new-counts.ensures.empty in let no : ⊥ = cc in no);
}

pub loop-name-preserved : goal.loop-name-preserved
loop-name-preserved g c =
    let sources = g.V.View.sources c.args.view.now in
    let order = c.args.order.now in
    let i = c.loop-name.name-index in
    let name = c.name-item.result in
    let old = get name_cmp c.loop-name.counts in
    let new = get name_cmp c.add_count.new.counts in
    let added = c.in_ok-add_count.ensures in
    let before = c.loop-name.invariant in
    let next = next_counted i name c.requires.order (c.requires.sound name (i, c.loop-name-test.true, sym c.name-item.is)) c.loop-name-test.true c.name-item.is before.all added.counted in
    record {
      all = rw (further order i name c.loop-name-test.true c.name-item.is) at (counted_more sources old new (take i order) name before.all added.others next);
      right = right_more sources old new name before.right added.others added.kept next;
    }

pub returns : goal.returns
returns g c = record {
  all = rw (take_all c.loop-name.name-index c.args.order.now c.loop-name-test.false) at c.loop-name.invariant.all;
  right = c.loop-name.invariant.right;
}
