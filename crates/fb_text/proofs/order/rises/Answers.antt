use Rattle.std.proofs.Common.{arith}
use Rattle.fb_text.proofs.SortLemmas.{strict_from_adjacent}
use Rattle.fb_text.proofs.order.rises.Goals as goal

pub returns : goal.returns
returns g c = λ yes. strict_from_adjacent g.T.Ord.cmp g.met.T.Ord.total c.args.items.now (λ k d h. c.loop-i.invariant k d (omega arith))
