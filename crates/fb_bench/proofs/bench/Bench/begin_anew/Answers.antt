-- The history begins from the present state.
use Rattle.std.proofs.Common.{◌≡◌, ◌∙◌, sym, ap, subst}
use Rattle.fb_history.specs.{Checkpoints.{checkpointed}, BenchView.{BenchView}}
use Rattle.fb_bench.specs.Consistent.{IsConsistent}
use Rattle.fb_bench.proofs.{Checkpointing.{kept_checkpointed, restarted_is}, KeysKept.{out_listed, pending_listed}}
use Rattle.fb_bench.proofs.bench.Bench.begin_anew.Goals as goal

pub invariant_of-self-2 : goal.invariant_of-self-2
invariant_of-self-2 c =
    let bench : BenchView = c.self.inside.history in
    let kept = c.self.inside in
    let agrees = c.self.invariant.agrees in
    let begins = c.self.invariant.begins in
    let ordered = c.in_ok-pending.ensures.ordered in
    let pending = c.in_ok-pending.ensures.pending ∙ pending_listed bench begins kept.library kept.commits kept.entries agrees ordered in
    let out = c.in_ok-pending.ensures.out ∙ out_listed bench begins kept.library kept.commits kept.entries agrees ordered in
    let is : c.restart.new.self ≡ checkpointed c.args.limits bench =
    c.in_ok-restarted.ensures.ok ∙ restarted_is c.args.limits bench _ _ _ _ (c.in_ok-library.ensures ∙ agrees.units_are) agrees.commits_are pending out in
    subst (λ st. IsConsistent kept.library kept.commits kept.entries kept.index st) (sym is)
    (kept_checkpointed kept.library kept.commits kept.entries kept.index c.args.limits bench c.self.invariant)

pub returns-clause-kept : goal.returns-clause-kept
returns-clause-kept c =
    let bench : BenchView = c.self.inside.history in
    let kept = c.self.inside in
    let agrees = c.self.invariant.agrees in
    let begins = c.self.invariant.begins in
    let ordered = c.in_ok-pending.ensures.ordered in
    let pending = c.in_ok-pending.ensures.pending ∙ pending_listed bench begins kept.library kept.commits kept.entries agrees ordered in
    let out = c.in_ok-pending.ensures.out ∙ out_listed bench begins kept.library kept.commits kept.entries agrees ordered in
    c.in_ok-restarted.ensures.ok ∙ restarted_is c.args.limits bench _ _ _ _ (c.in_ok-library.ensures ∙ agrees.units_are) agrees.commits_are pending out
    ∙ ap (checkpointed c.args.limits) c.self.view_is

pub returns-clause-records : goal.returns-clause-records
returns-clause-records c = c.in_ok-restarted.ensures.records ∙ ap (λ (st : BenchView). st.log.records) c.self.view_is
