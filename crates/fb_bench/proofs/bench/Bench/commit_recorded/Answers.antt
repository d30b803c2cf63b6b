-- A commit is recorded with the machine's answer; where it is done, what is kept is that of the new texts.
use Rattle.std.proofs.Common.{◌≡◌, ℕ, ◌<◌, ◌+◌, List, map, length, refl, sym, ap, subst, ◌∙◌, arith, rules}
use Rattle.fb_entries.specs.{Library.Texts.{Edit, unit_of}, Library.Changes.{edits_of}, Indexed.{IsIndexOf}}
use Rattle.fb_history.specs.{declared.answers.Committed.TheVariants.{Done}, Machine.{State, ToCommit, commit_answer, reply}}
use Rattle.fb_history.specs.BenchView.{BenchView, logged, record_after, state_of, recorded, record_of}
use Rattle.fb_bench.specs.{Records.{listed, reply_of}, Consistent.{Agrees, IsConsistent}, Outcomes.{answer_at}}
use Rattle.fb_bench.proofs.{Keeping.{kept_pushed}, Committing.{answer_kept, commits_is, committed_is, agrees_renewed}, Renewals.{agrees_back}}
use Rattle.fb_history.proofs.Steps.{bench_pushed, share_pushed}
use Rattle.fb_bench.proofs.bench.Bench.commit_recorded.Goals as goal

pub overflow_add-number : goal.overflow_add-number
overflow_add-number c =
    let room : length c.self.inside.history.log.records < c.self.inside.history.log.limit = search rules in
    omega (arith, c.is_full.ensures.fits, c.self.invariant.few)

pub invariant_of-self-in-Refused : goal.invariant_of-self-in-Refused
invariant_of-self-in-Refused c =
    let bench : BenchView = c.self.inside.history in
    let s : State = state_of bench in
    let edits : List Edit = edits_of c.first_changes-changes.result.now in
    let refused = rw c.in-Refused.is at c.in_ok-outcome.ensures in
    let answer : c.in-Refused.refused ≡ commit_answer s edits = refused.0 ∙ ap (λ m. answer_at m (c.self.inside.commits + 1) c.self.inside.library edits) c.most_units-most_units.ensures ∙ answer_kept bench c.self.inside.library c.self.inside.commits edits c.self.invariant.agrees.units_are c.self.invariant.agrees.commits_are in
    kept_pushed _ _ _ _ bench _ c.args.caller (ToCommit edits) _ c.self.invariant.begins (c.in_ok-share-in-Refused.ensures.ok ∙ ap (λ it. logged bench c.args.caller it (reply_of c.in_ok-stored-in-Refused.stored)) (ap ToCommit c.in_ok-of_changes.ensures)) (c.in_ok-stored-in-Refused.ensures ∙ commits_is s edits edits c.in-Refused.refused refl answer)
    (subst (λ t. Agrees c.self.inside.library c.self.inside.commits c.self.inside.entries t) (sym (committed_is s edits edits c.in-Refused.refused refl answer ∙ refused.1 s)) c.self.invariant.agrees)
    c.self.invariant.replayed c.self.invariant.indexed (omega (arith, c.self.invariant.few))

pub returns-in_ok-share-in-Refused : goal.returns-in_ok-share-in-Refused
returns-in_ok-share-in-Refused c =
    let bench : BenchView = c.self.inside.history in
    let s : State = state_of bench in
    let edits : List Edit = edits_of c.first_changes-changes.result.now in
    let prefix : edits ≡ listed c.args.changes.now = ap edits_of c.first_changes-changes.ensures in
    let refused = rw c.in-Refused.is at c.in_ok-outcome.ensures in
    let answer : c.in-Refused.refused ≡ commit_answer s edits = refused.0 ∙ ap (λ m. answer_at m (c.self.inside.commits + 1) c.self.inside.library edits) c.most_units-most_units.ensures ∙ answer_kept bench c.self.inside.library c.self.inside.commits edits c.self.invariant.agrees.units_are c.self.invariant.agrees.commits_are in
    record {
      step = bench_pushed bench _ _ c.args.caller (ToCommit edits) _ c.self.view_is (c.in_ok-share-in-Refused.ensures.ok ∙ ap (λ it. logged bench c.args.caller it (reply_of c.in_ok-stored-in-Refused.stored)) (ap ToCommit c.in_ok-of_changes.ensures)) (c.in_ok-stored-in-Refused.ensures ∙ commits_is s edits edits c.in-Refused.refused refl answer) ∙ ap (λ es. recorded c.args.self.now c.args.caller (ToCommit es)) prefix;
      answer = commits_is s (listed c.args.changes.now) edits c.in-Refused.refused (sym prefix) answer ∙ ap (λ st. reply (state_of st) (ToCommit (listed c.args.changes.now))) c.self.view_is;
      share = share_pushed bench _ _ c.args.caller (ToCommit edits) _ c.self.view_is (c.in_ok-share-in-Refused.ensures.share ∙ ap (λ it. record_after bench c.args.caller it (reply_of c.in_ok-stored-in-Refused.stored)) (ap ToCommit c.in_ok-of_changes.ensures)) (c.in_ok-stored-in-Refused.ensures ∙ commits_is s edits edits c.in-Refused.refused refl answer) ∙ ap (λ es. record_of c.args.self.now c.args.caller (ToCommit es)) prefix;
      full = search rules;
      err = tt;
    }

pub invariant_of-self-in_err-share-in-Done : goal.invariant_of-self-in_err-share-in-Done
invariant_of-self-in_err-share-in-Done c =
    let bench : BenchView = c.self.inside.history in
    let kept = c.self.invariant in
    let done = rw c.in-Done.is at c.in_ok-outcome.ensures in
    let new = c.record_with_room.new.entries in
    subst (λ l. IsConsistent c.self.inside.library c.self.inside.commits new c.self.inside.index l) (sym c.in_err-share-in-Done.ensures.unlogged)
    (record {
      begins = kept.begins;
      agrees = agrees_back c.self.inside.library c.in-Done.library c.self.inside.commits (map unit_of (edits_of c.first_changes-changes.result.now)) c.self.inside.entries new (state_of bench) c.in-Done.found.renewal kept.agrees done.3 c.in_err-share-in-Done.ensures.back;
      replayed = kept.replayed;
      indexed = kept.indexed;
      few = kept.few;
    })

pub invariant_of-self-in-Done : goal.invariant_of-self-in-Done
invariant_of-self-in-Done c =
    let bench : BenchView = c.self.inside.history in
    let s : State = state_of bench in
    let edits : List Edit = edits_of c.first_changes-changes.result.now in
    let number : ℕ = c.self.inside.commits + 1 in
    let done = rw c.in-Done.is at c.in_ok-outcome.ensures in
    let answer : Done number ≡ commit_answer s edits = done.0 ∙ ap (λ m. answer_at m number c.self.inside.library edits) c.most_units-most_units.ensures ∙ answer_kept bench c.self.inside.library c.self.inside.commits edits c.self.invariant.agrees.units_are c.self.invariant.agrees.commits_are in
    let agrees = c.self.invariant.agrees in
    let it = c.in-Done.found.renewal in
    let room = c.record_with_room.new.entries in
    let new = c.carry_out.new.self in
    kept_pushed _ _ _ _ bench _ c.args.caller (ToCommit edits) _ c.self.invariant.begins (c.in_ok-share-in-Done.ensures.logged ∙ ap (λ it. logged bench c.args.caller it (reply_of c.in_ok-stored-in-Done.stored)) (ap ToCommit c.in_ok-of_changes.ensures)) (c.in_ok-stored-in-Done.ensures ∙ commits_is s edits edits (Done number) refl answer)
    (subst (λ t. Agrees c.in-Done.library number new t) (sym (committed_is s edits edits (Done number) refl answer))
    (agrees_renewed c.locality.ensures.value c.self.inside.commits edits c.self.inside.library c.in-Done.library c.self.inside.entries room new s it done.1 agrees done.3 c.in_ok-share-in-Done.ensures.room c.carry_out.ensures.entries))
    c.self.invariant.replayed
    (subst (λ it. IsIndexOf c.in-Done.library it) (sym c.carry_out.ensures.index) done.2)
    (omega (arith, c.self.invariant.few))

pub returns-in_ok-share-in-Done : goal.returns-in_ok-share-in-Done
returns-in_ok-share-in-Done c =
    let bench : BenchView = c.self.inside.history in
    let s : State = state_of bench in
    let edits : List Edit = edits_of c.first_changes-changes.result.now in
    let prefix : edits ≡ listed c.args.changes.now = ap edits_of c.first_changes-changes.ensures in
    let number : ℕ = c.self.inside.commits + 1 in
    let done = rw c.in-Done.is at c.in_ok-outcome.ensures in
    let answer : Done number ≡ commit_answer s edits = done.0 ∙ ap (λ m. answer_at m number c.self.inside.library edits) c.most_units-most_units.ensures ∙ answer_kept bench c.self.inside.library c.self.inside.commits edits c.self.invariant.agrees.units_are c.self.invariant.agrees.commits_are in
    record {
      step = bench_pushed bench _ _ c.args.caller (ToCommit edits) _ c.self.view_is (c.in_ok-share-in-Done.ensures.logged ∙ ap (λ it. logged bench c.args.caller it (reply_of c.in_ok-stored-in-Done.stored)) (ap ToCommit c.in_ok-of_changes.ensures)) (c.in_ok-stored-in-Done.ensures ∙ commits_is s edits edits (Done number) refl answer) ∙ ap (λ es. recorded c.args.self.now c.args.caller (ToCommit es)) prefix;
      answer = commits_is s (listed c.args.changes.now) edits (Done number) (sym prefix) answer ∙ ap (λ st. reply (state_of st) (ToCommit (listed c.args.changes.now))) c.self.view_is;
      share = share_pushed bench _ _ c.args.caller (ToCommit edits) _ c.self.view_is (c.in_ok-share-in-Done.ensures.share ∙ ap (λ it. record_after bench c.args.caller it (reply_of c.in_ok-stored-in-Done.stored)) (ap ToCommit c.in_ok-of_changes.ensures)) (c.in_ok-stored-in-Done.ensures ∙ commits_is s edits edits (Done number) refl answer) ∙ ap (λ es. record_of c.args.self.now c.args.caller (ToCommit es)) prefix;
      full = search rules;
      err = tt;
    }
