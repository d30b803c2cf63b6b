-- The index that is kept is that of the texts.
use Rattle.std.proofs.Common.{subst}
use Rattle.fb_entries.specs.Indexed.{IsIndexOf}
use Rattle.fb_history.specs.BenchView.{BenchView, state_of}
use Rattle.fb_bench.proofs.bench.Bench.index.Goals as goal

pub returns : goal.returns
returns c =
    subst (λ (it : BenchView). IsIndexOf (state_of it).units c.self.inside.index) c.self.view_is
    (subst (λ units. IsIndexOf units c.self.inside.index) c.self.invariant.agrees.units_are c.self.invariant.indexed)
