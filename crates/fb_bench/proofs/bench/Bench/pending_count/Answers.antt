-- A key waits exactly where its entry has no value.
use Rattle.std.proofs.Common.{◌∙◌, ap, count_by}
use Rattle.fb_history.specs.{Machine.{keys_of}, BenchView.{BenchView, state_of}}
use Rattle.fb_bench.proofs.KeysKept.{pending_are}
use Rattle.fb_bench.proofs.bench.Bench.pending_count.Goals as goal

pub returns : goal.returns
returns c =
    let bench : BenchView = c.self.inside.history in
    let kept = c.self.inside in
    c.pending_count.ensures.count
    ∙ pending_are bench c.self.invariant.begins kept.library kept.commits kept.entries c.self.invariant.agrees c.pending_count.ensures.ordered
    ∙ ap (λ st. count_by (state_of st).pending (keys_of (state_of st).units)) c.self.view_is
