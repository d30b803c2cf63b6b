use Rattle.fb_streams.proofs.Pieces.{prefix_is}
use Rattle.fb_streams.proofs.memory_feed.copy_prefix.Goals as goal

pub returns : goal.returns
returns c = prefix_is _ _ c.args.bytes.now c.copy_from_slice.ensures.after
