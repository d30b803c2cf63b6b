-- There is an entry for each key of the texts, and for no other.
use Rattle.std.proofs.{Common.{length, sym, ap, ◌∙◌}, lemmas.Map.Entries.{length-keys_of}}
use Rattle.fb_history.specs.{Machine.{keys_of}, BenchView.{BenchView, state_of}}
use Rattle.fb_bench.proofs.KeysKept.{keys_are}
use Rattle.fb_bench.proofs.bench.Bench.key_count.Goals as goal

pub returns : goal.returns
returns c =
    let bench : BenchView = c.self.inside.history in
    let kept = c.self.inside in
    c.len.ensures.len ∙ sym (length-keys_of kept.entries.entries)
    ∙ ap length (keys_are bench c.self.invariant.begins kept.library kept.commits kept.entries c.self.invariant.agrees c.len.ensures.ordered)
    ∙ ap (λ st. length (keys_of (state_of st).units)) c.self.view_is
