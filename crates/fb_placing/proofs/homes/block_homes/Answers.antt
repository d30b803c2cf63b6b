-- One block further.
use Rattle.std.proofs.{Common.{◌<◌, [], ◌++◌, Option, length, sym, ◌∙◌, ap, append-nil, arith}, lemmas.List.{take_all}}
use Rattle.std.specs.{HashMap.{get_by_text}, List.{cons_option}}
use Rattle.fb_network.specs.Numbered.{block_numbered}
use Rattle.fb_placing.specs.{Homes.{block_home, block_homes}, declared.homes.Home.{Home}}
use Rattle.fb_placing.proofs.{CreateLemmas.{block_there}, ListLemmas.{filter_map_step}, homes.block_homes.Goals.{in-Some+in_ok-push, in_default}}
use Rattle.fb_placing.proofs.homes.block_homes.Goals as goal

pub loop-block-preserved : goal.loop-block-preserved
loop-block-preserved c =
    let flat = c.args.flat.now in
    let n = c.loop-block.block in
    let x = block_numbered flat n in
    let lt : n < length flat.blocks = omega (arith, c.loop-block-test.true, c.in_ok-count.ensures.same, c.block_count.ensures) in
    let step = filter_map_step (block_home (get_by_text c.args.table.now)) flat.blocks n x c.in_ok-home.field-0 c.loop-block.homes.items c.match-branch-4.homes.items lt (block_there flat.blocks n x lt) c.loop-block.invariant c.in_ok-home.ensures in
    elim c.match-branch-4.branch [
      | in-Some+in_ok-push w ↦ step (ap (λ h. h.items) w.homes-is ∙ w.in_ok-push.ensures.items ∙ ap (λ (o : Option Home). c.loop-block.homes.items ++ cons_option o []) (sym w.in-Some.is))
      | in_default w ↦ step (ap (λ h. h.items) w.homes-is ∙ sym (append-nil c.loop-block.homes.items) ∙ ap (λ (o : Option Home). c.loop-block.homes.items ++ cons_option o []) (sym w.in_default.is))
    ]

pub returns : goal.returns
returns c =
    let flat = c.args.flat.now in
    c.loop-block.invariant
    ∙ ap (block_homes (get_by_text c.args.table.now)) (take_all c.loop-block.block flat.blocks (omega (arith, c.loop-block-test.false, c.in_ok-count.ensures.same, c.block_count.ensures)))
