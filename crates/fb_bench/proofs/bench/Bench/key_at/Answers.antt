-- The entries stand by rising key, and so do the keys of the texts.
use Rattle.std.proofs.Common.{subst, ap, ◌∙◌, slice_get}
use Rattle.std.specs.List.Sorted.{IsStrictlySortedBy}
use Rattle.fb_entries.specs.Jobs.KeyOrder.{key_cmp}
use Rattle.fb_history.specs.{Machine.{keys_of}, BenchView.{BenchView, state_of}}
use Rattle.fb_history.proofs.Sorted.{keys_rise}
use Rattle.fb_bench.proofs.KeysKept.{keys_are}
use Rattle.fb_bench.proofs.bench.Bench.key_at.Goals as goal

pub returns-clause-key : goal.returns-clause-key
returns-clause-key c =
    let bench : BenchView = c.self.inside.history in
    let kept = c.self.inside in
    c.key_at.ensures.key
    ∙ ap (λ keys. slice_get keys c.args.place) (keys_are bench c.self.invariant.begins kept.library kept.commits kept.entries c.self.invariant.agrees c.key_at.ensures.ordered)
    ∙ ap (λ st. slice_get (keys_of (state_of st).units) c.args.place) c.self.view_is

pub returns-clause-ordered : goal.returns-clause-ordered
returns-clause-ordered c =
    let bench : BenchView = c.self.inside.history in
    subst (λ (it : BenchView). IsStrictlySortedBy key_cmp (keys_of (state_of it).units)) c.self.view_is (keys_rise bench c.self.invariant.begins)
