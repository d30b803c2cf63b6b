use Rattle.std.proofs.Common.{◌≡◌, take, string_bytes}
use Rattle.std.specs.List.{flat_map}
use Rattle.fb_placing.specs.ConstantTexts.{token_text}
use Rattle.fb_placing.proofs.plan.constants.joined.Given as goal

abbrev pub invariant-loop-token : goal.invariant-loop-token
invariant-loop-token l = string_bytes l.told ≡ flat_map (token_text l.text) (take l.token-index l.tokens)
