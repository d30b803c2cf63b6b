use Rattle.std.proofs.Common.{◌≡◌, ◌++◌, bit_xor, drop, map, take}
use Rattle.fb_secret.proofs.hmac.with_pad.Given as goal

abbrev pub invariant-loop-byte : goal.invariant-loop-byte
invariant-loop-byte l = l.byte-items ≡ map (λ byte. bit_xor byte l.pad) (take l.byte-index l.fn.block) ++ drop l.byte-index l.fn.block
