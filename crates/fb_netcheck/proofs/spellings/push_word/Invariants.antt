use Rattle.std.proofs.Common.{◌≡◌, ◌++◌, take}
use Rattle.std.specs.Str.{str_to_ascii_uppercase}
use Rattle.fb_netcheck.proofs.spellings.push_word.Given as goal

abbrev pub invariant-loop-b : goal.invariant-loop-b
invariant-loop-b l = l.spelling.items ≡ l.initial.spelling.items ++ str_to_ascii_uppercase (take l.b-index l.b-items)
