-- Each instance is taken in and put into the table.
use Rattle.std.proofs.{Common.{refl, take}, lemmas.List.{take_all}}
use Rattle.std.specs.BTreeMap.{get}
use Rattle.fb_tree.specs.Text.Order.{name_cmp}
use Rattle.fb_network.proofs.{EmptyMaps.{nothing_at}, Standings.{holds_more, holds_nothing, next_taken, says_grown}}
use Rattle.fb_network.proofs.composition.instances.take_instances.Goals as goal

pub loop-place-init : goal.loop-place-init
loop-place-init g c = holds_nothing c.args.draft.now (get name_cmp c.new-table.result) c.requires.no_blocks c.requires.no_links (λ name. nothing_at c.new-table.result name c.new-table.ensures.empty)

pub take_instance-requires : goal.take_instance-requires
take_instance-requires g c =
    let x = c.index-instances-place.result in
    rw c.in_ok-number.ensures.same (says_grown c.loop-place.invariant.grows (c.requires.named c.loop-place.place x c.loop-place-test.true c.index-instances-place.is))

pub loop-place-preserved : goal.loop-place-preserved
loop-place-preserved g c =
    let x = c.index-instances-place.result in
    rw (next_taken c.args.instances.now c.loop-place.place x c.loop-place-test.true c.index-instances-place.is) at
    (holds_more c.args.draft.now c.loop-place.draft c.take_instance.new.draft (get name_cmp c.loop-place.table) (get name_cmp c.put.new.table) (take c.loop-place.place c.args.instances.now) x
    (record { instance = x; borders = c.in_ok-borders.borders }) c.loop-place.invariant c.in_ok-borders.ensures refl c.in_ok-put.ensures)

pub returns : goal.returns
returns g c = rw (take_all c.loop-place.place c.args.instances.now c.loop-place-test.false) at c.loop-place.invariant
