-- A key that is next is one of the library, whose kept values are those of its texts; the job is the machine's order.
use Rattle.std.proofs.Common.{◌≡◌, true, sym, ap, subst, refl, ◌∙◌, Some}
use Rattle.fb_entries.specs.Jobs.Keys.{has_key}
use Rattle.fb_history.specs.{Machine.{State, ToTake, reply, next}, BenchView.{BenchView, state_of}}
use Rattle.fb_history.proofs.{Least.{next_passes}, Steps.{take_some}}
use Rattle.fb_bench.proofs.Marks.{ready_has, all_found, all_kept}
use Rattle.fb_bench.proofs.bench.Bench.job_for.Goals as goal

pub for_kept-requires-clause-has : goal.for_kept-requires-clause-has
for_kept-requires-clause-has c =
    let bench : BenchView = c.self.inside.history in
    let s : State = state_of bench in
    let key = c.args.key in
    let some : Some key ≡ next s = c.requires ∙ ap (λ st. next (state_of st)) (sym c.self.view_is) in
    let has = ready_has s key _ (c.self.invariant.agrees.each key) (next_passes s key some) in
    subst (λ units. has_key units key ≡ true) (sym c.self.invariant.agrees.units_are) has

pub for_kept-requires-clause-kept : goal.for_kept-requires-clause-kept
for_kept-requires-clause-kept c = all_kept (c.self.invariant.agrees)

pub for_kept-requires-clause-found : goal.for_kept-requires-clause-found
for_kept-requires-clause-found c = all_found (c.self.invariant.agrees)

pub returns-clause-job : goal.returns-clause-job
returns-clause-job c =
    let bench : BenchView = c.self.inside.history in
    let s : State = state_of bench in
    let key = c.args.key in
    let some : Some key ≡ next s = c.requires ∙ ap (λ st. next (state_of st)) (sym c.self.view_is) in
    take_some s c.self.inside.library key c.in_ok-job.job _ _ c.self.invariant.agrees.units_are c.in_ok-job.ensures refl refl some
    ∙ ap (λ st. reply (state_of st) ToTake) c.self.view_is

pub returns-clause-answer : goal.returns-clause-answer
returns-clause-answer c =
    let bench : BenchView = c.self.inside.history in
    let s : State = state_of bench in
    let key = c.args.key in
    let some : Some key ≡ next s = c.requires ∙ ap (λ st. next (state_of st)) (sym c.self.view_is) in
    c.in_ok-answer.ensures
    ∙ take_some s c.self.inside.library key c.in_ok-job.job _ _ c.self.invariant.agrees.units_are c.in_ok-job.ensures refl refl some
    ∙ ap (λ st. reply (state_of st) ToTake) c.self.view_is
