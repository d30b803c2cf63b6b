use Rattle.std.proofs.Common.{◌≡◌, take}
use Rattle.std.specs.List.{flat_map}
use Rattle.fb_netcheck.specs.Spellings.{word}
use Rattle.fb_netcheck.proofs.spellings.spelled.Given as goal

abbrev pub invariant-loop-token : goal.invariant-loop-token
invariant-loop-token l = l.spelling.items ≡ flat_map (word l.text) (take l.token-index l.tokens)
