use Rattle.std.proofs.Common.{◌≡◌, ◌-◌, length, take, drop, replicate}
use Rattle.std.specs.Str.{str_to_ascii_uppercase}
use Rattle.fb_text.proofs.short_name.ShortName.of_word.Given as goal

-- the prefix is written, and zeros are left
abbrev pub invariant-loop-i : goal.invariant-loop-i
invariant-loop-i l = record {
  room : length l.bytes ≡ 22;
  prefix : take l.i l.bytes ≡ str_to_ascii_uppercase (take l.i l.word);
  rest : drop l.i l.bytes ≡ replicate (22 - l.i) 0;
}
