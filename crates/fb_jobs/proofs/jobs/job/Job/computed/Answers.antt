-- What is read is right for the key, and what the job knows beside it is what it gives.
use Rattle.std.proofs.Common.{◌≡◌, ◌⊎◌, Bool, true, List, [], sym, subst, IfOk}
use Rattle.std.specs.BTreeMap as tree
use Rattle.std.specs.BTreeSet as set
use Rattle.std.specs.FinMap.{get}
use Rattle.fb_text.specs.Order.{name_cmp}
use Rattle.fb_deploy.specs.{Flatten.Hints.{AreFaultless, AreRightHints}, Library.Texts.{sources_of}}
use Rattle.fb_jobs.specs.{declared.keys.key.Key.{Key}, declared.kept.hints.Hint.{Hint}, declared.kept.cached.Cached.{Cached}, Keys.{has_kind_at}, Cached.{IsCached, hint_in, is_flagged}}
use Rattle.fb_jobs.specs.{Work.{IsOwnIn, IsWork}, Reads.{PlainJob, Seen, read_texts}}
use Rattle.fb_jobs.proofs.{CachedLemmas.{faultless_in, flags_unless, hints_unless, nets_right, own_in}, SameNeeds.{kind_there}}
use Rattle.fb_jobs.proofs.jobs.job.Job.computed.Goals as goal

known : (inside it : PlainJob) (cached : Cached) → inside ≡ it → IsCached inside.reads inside.key cached → IsCached it.reads it.key cached
known inside it cached is has = subst (λ (i : PlainJob). IsCached i.reads i.key cached) is has

pub work_of-requires-clause-has : goal.work_of-requires-clause-has
work_of-requires-clause-has c =
    let it = c.args.self.now in
    subst (λ (k : Key). has_kind_at k.kind (get (sources_of (read_texts c.inputs.result.now.reads)) k.unit) ≡ true) (sym c.key.ensures)
    (subst (λ (i : PlainJob). has_kind_at it.key.kind (get (sources_of (read_texts i.reads)) it.key.unit) ≡ true) (sym c.inputs.ensures)
    (kind_there (read_texts it.reads) it.key c.reads.ensures.right.has))

pub work_of-requires-clause-right : goal.work_of-requires-clause-right
work_of-requires-clause-right c =
    let it = c.args.self.now in
    let hints = c.unless-hints.result.now in
    subst (λ (i : PlainJob). AreRightHints (sources_of (read_texts i.reads)) (λ name. hint_in (tree.get name_cmp c.in_ok-nets.nets name))) (sym c.inputs.ensures)
    (nets_right (read_texts it.reads) it.key hints c.in_ok-nets.nets
    (hints_unless (read_texts it.reads) it.key c.self.inside.cached.hints.items hints (known _ _ c.self.inside.cached c.self.view_is c.self.invariant).hints_are
    (subst (λ (all : List Hint). (hints ≡ all) ⊎ (hints ≡ [])) c.deref.ensures.value c.unless-hints.ensures))
    c.in_ok-nets.ensures)

pub work_of-requires-clause-faultless : goal.work_of-requires-clause-faultless
work_of-requires-clause-faultless c =
    let reads = c.args.self.now.reads in
    let flags = c.unless-flags.result.now in
    let without =
    flags_unless (read_texts reads) reads c.self.inside.cached.faultless.items flags (known _ _ c.self.inside.cached c.self.view_is c.self.invariant).faultless_are
    (subst (λ (all : List Bool). (flags ≡ all) ⊎ (flags ≡ [])) c.deref-2.ensures.value c.unless-flags.ensures) in
    subst (λ (i : PlainJob). AreFaultless (sources_of (read_texts i.reads)) (λ name. set.contains name_cmp c.in_ok-faultless.faultless name)) (sym c.inputs.ensures)
    (λ name has. faultless_in (read_texts reads) (is_flagged reads flags) without name
    (subst (λ (seen : List Seen). is_flagged seen flags name ≡ true) c.reads.ensures.same
    (c.in_ok-faultless.ensures name has)))

pub work_of-requires-clause-own : goal.work_of-requires-clause-own
work_of-requires-clause-own c =
    let it = c.args.self.now in
    let own = c.self.inside.cached.own in
    subst (λ (k : Key). IsOwnIn (sources_of (read_texts c.inputs.result.now.reads)) k.unit own) (sym c.key.ensures)
    (subst (λ (i : PlainJob). IsOwnIn (sources_of (read_texts i.reads)) it.key.unit own) (sym c.inputs.ensures)
    (own_in (read_texts it.reads) it.key.unit own (known _ _ c.self.inside.cached c.self.view_is c.self.invariant).own_is))

pub returns : goal.returns
returns c =
    subst (λ (i : PlainJob). IfOk c.work_of.result (IsWork c.args.self.now.key.kind (sources_of (read_texts i.reads)) c.args.self.now.key.unit)) c.inputs.ensures
    (subst (λ (k : Key). IfOk c.work_of.result (IsWork k.kind (sources_of (read_texts c.inputs.result.now.reads)) k.unit)) c.key.ensures c.work_of.ensures)
