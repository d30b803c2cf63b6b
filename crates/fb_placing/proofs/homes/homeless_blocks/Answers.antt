-- Each block has its home.
use Rattle.std.proofs.Common.{sym, ◌∙◌}
use Rattle.std.specs.HashMap.{get_by_text}
use Rattle.fb_placing.proofs.HousedLemmas.{all_housed}
use Rattle.fb_placing.proofs.homes.homeless_blocks.Goals as goal

pub returns-then-homes-block_count : goal.returns-then-homes-block_count
returns-then-homes-block_count c =
    c.new.ensures.items ∙ sym (all_housed (get_by_text c.args.table.now) c.args.flat.now.blocks (sym c.requires ∙ c.if-homes-block_count.true ∙ c.block_count.ensures))
