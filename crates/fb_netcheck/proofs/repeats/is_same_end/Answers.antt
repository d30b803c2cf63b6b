use Rattle.std.proofs.{Common.{arith}, lemmas.Grind.{common_steps}}
use Rattle.fb_netcheck.proofs.AgainLemmas.{same_ends}
use Rattle.fb_netcheck.proofs.repeats.is_same_end.Goals as goal

pub returns-then-is_same_name : goal.returns-then-is_same_name
returns-then-is_same_name c =
    let same = same_ends c.args.end.now.name c.args.other.now.name c.args.end.now.port c.args.other.now.port in
    grind (arith, common_steps, same)

pub returns-else-is_same_name : goal.returns-else-is_same_name
returns-else-is_same_name c =
    let same = same_ends c.args.end.now.name c.args.other.now.name c.args.end.now.port c.args.other.now.port in
    grind (arith, common_steps, same)
