-- One block further.
use Rattle.std.proofs.{Common.{◌<◌, length, map, refl, ap, ◌∙◌, arith}, lemmas.List.{take_all}}
use Rattle.fb_placing.specs.{HomeTable.{home_by_path}, Created.{created_command}, PlacedCommands.{create_command}}
use Rattle.std.specs.List.{filter_map}
use Rattle.fb_network.specs.Numbered.{block_numbered}
use Rattle.fb_placing.proofs.{CreateLemmas.{block_there}, ListLemmas.{filter_map_step}}
use Rattle.fb_placing.proofs.plan.create_commands.all_created.Goals as goal

pub loop-block-preserved : goal.loop-block-preserved
loop-block-preserved c =
    let flat = c.args.flat.now in
    let line = create_command (home_by_path c.args.homes.now.by_path) in
    let n = c.loop-block.block in
    let x = block_numbered flat n in
    let lt : n < length flat.blocks = omega (arith, c.loop-block-test.true, c.in_ok-count.ensures.same, c.block_count.ensures) in
    filter_map_step line flat.blocks n x (line x) (map (created_command flat) c.loop-block.created.items) (map (created_command flat) c.push_created.new.created.items)
    lt (block_there flat.blocks n x lt) c.loop-block.invariant refl c.in_ok-push_created.ensures

pub returns : goal.returns
returns c =
    let flat = c.args.flat.now in
    c.loop-block.invariant
    ∙ ap (filter_map (create_command (home_by_path c.args.homes.now.by_path))) (take_all c.loop-block.block flat.blocks (omega (arith, c.loop-block-test.false, c.in_ok-count.ensures.same, c.block_count.ensures)))
