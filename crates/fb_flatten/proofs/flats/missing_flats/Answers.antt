-- The next name is finished, by what is composed or by what is kept.
use Rattle.std.proofs.{Common.{◌≡◌, None, sym, take, ◌∙◌}, lemmas.List.{take_all}}
use Rattle.std.specs.BTreeMap.{get}
use Rattle.fb_types.specs.Text.Order.{name_cmp}
use Rattle.fb_flatten.proofs.{CountLemmas.{in_table}, FlatsLemmas.{added_finished, finished_more, finished_skip, missing_more}}
use Rattle.fb_flatten.proofs.flats.missing_flats.Goals.{then-is_missing+in_ok-add_flat, else-is_missing}
use Rattle.fb_types.proofs.{TableLemmas.{further}, Text.Members.{contains_nothing}, Network.EmptyMaps.{nothing_at}}
use Rattle.fb_flatten.proofs.flats.missing_flats.Goals as goal

pub loop-name-init : goal.loop-name-init
loop-name-init g c = record {
  finished = λ name h other kind small. absurd (contains_nothing name h);
  missing = λ name flat found. absurd (let none : get name_cmp c.new-composed.result name ≡ None = nothing_at c.new-composed.result name c.new-composed.ensures.empty in let no : ⊥ = cc in no);
}

pub add_flat-requires : goal.add_flat-requires
add_flat-requires g c = in_table c.requires.order.names c.requires.table c.name-item.result (c.loop-name.name-index, c.loop-name-test.true, sym c.name-item.is)

pub loop-name-preserved : goal.loop-name-preserved
loop-name-preserved g c =
    let sources = g.V.View.sources c.args.view.now in
    let hints = g.H.Hints.hints c.args.hints.now in
    let unit = c.args.unit.now in
    let order = c.args.order.now in
    let i = c.loop-name.name-index in
    let name = c.name-item.result in
    let step = further order i name c.loop-name-test.true c.name-item.is in
    let old = get name_cmp c.loop-name.composed in
    let before = c.loop-name.invariant in
    elim c.if-is_missing.branch [
      | then-is_missing+in_ok-add_flat w ↦
          rw w.composed-is
          (record {
            finished = rw step at
                (finished_more sources hints unit (take i order) name old (get name_cmp w.add_flat.new.composed) before.finished w.in_ok-add_flat.ensures.others
                (λ kind small. added_finished c.requires.order c.requires.table old (get name_cmp w.add_flat.new.composed) i name c.loop-name-test.true c.name-item.is (sym c.is_missing.ensures ∙ w.if-is_missing.true) before.finished w.in_ok-add_flat.ensures.added small));
            missing =
                missing_more sources hints unit (take i order) name order old (get name_cmp w.add_flat.new.composed) before.missing w.in_ok-add_flat.ensures.others
                (i, c.loop-name-test.true, sym c.name-item.is) (sym c.is_missing.ensures ∙ w.if-is_missing.true);
          })
      | else-is_missing w ↦
          rw w.composed-is
          (record {
            finished = rw step at (finished_skip sources hints unit (take i order) name old c.requires.right (sym c.is_missing.ensures ∙ w.if-is_missing.false) before.finished);
            missing = before.missing;
          })
    ]

pub returns : goal.returns
returns g c = record {
  finished = rw (take_all c.loop-name.name-index c.args.order.now c.loop-name-test.false) at c.loop-name.invariant.finished;
  missing = c.loop-name.invariant.missing;
}
