-- The first key that can be taken is the least key that is ready.
use Rattle.std.proofs.Common.{ap, ◌∙◌}
use Rattle.fb_history.specs.{Machine.{next}, BenchView.{state_of}}
use Rattle.fb_bench.proofs.Marks.{first_is_next}
use Rattle.fb_bench.proofs.bench.Bench.next.Goals as goal

pub returns : goal.returns
returns c =
    first_is_next _ _ c.self.inside.entries _ c.first_ready.result c.self.invariant.agrees c.first_ready.ensures
    ∙ ap (λ st. next (state_of st)) c.self.view_is
