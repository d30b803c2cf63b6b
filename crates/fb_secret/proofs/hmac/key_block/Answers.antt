use Rattle.std.proofs.Common.{◌∙◌, ◌++◌, ap, arith, drop, length, replicate}
use Rattle.fb_secret.proofs.PadLemmas.{padded-short}
use Rattle.fb_secret.proofs.hmac.key_block.Goals as goal

pub returns-else-key-gt-BLOCK_SIZE : goal.returns-else-key-gt-BLOCK_SIZE
returns-else-key-gt-BLOCK_SIZE c =
    let key = c.args.key.now in
    ap (λ bytes. bytes ++ drop (length key) (replicate 64 0)) c.copy_from_slice-else-key-gt-BLOCK_SIZE.ensures.after ∙ padded-short key (omega arith)
