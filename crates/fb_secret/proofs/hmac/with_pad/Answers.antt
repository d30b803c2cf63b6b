use Rattle.std.proofs.Common.{arith, bit_xor}
use Rattle.std.proofs.lemmas.{List.{get_or_default}, List.Edits.{map_over_more}}
use Rattle.fb_secret.proofs.hmac.with_pad.Goals as goal

pub loop-byte-preserved : goal.loop-byte-preserved
loop-byte-preserved c =
    map_over_more (λ byte. bit_xor byte c.args.pad) c.args.block c.loop-byte.byte-items c.loop-byte.byte-index _ (omega arith) c.loop-byte.invariant (get_or_default c.loop-byte.byte-items c.loop-byte.byte-index 0 _ (omega arith))
