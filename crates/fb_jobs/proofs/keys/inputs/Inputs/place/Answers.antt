-- The closure compares a read's name, and the reads are in the order of their names.
use Rattle.std.proofs.{Common.{rules, IfOk, IfErr, List, ap, subst, sym, ◌∙◌}, lemmas.Fn.{always_returns_same}}
use Rattle.std.specs.List.Sorted.{IsStrictlySortedBy}
use Rattle.fb_text.specs.Order.{name_cmp}
use Rattle.fb_deploy.specs.Library.Place.{IsAt, IsGapFor}
use Rattle.fb_jobs.specs.{Reads.{PlainJob, read_names}, Values.{all_seen}, declared.keys.read.Read.{Read}, Finished.{plain_job}}
use Rattle.fb_jobs.proofs.{Currents.{reads_rise}, Searches.{searched}}
use Rattle.fb_deploy.proofs.Library.Searches.{Searched}
use Rattle.fb_jobs.proofs.keys.inputs.Inputs.place.Goals as goal

ends : (c : goal.After-binary_search_by) → Searched (read_names (all_seen c.deref.result.now)) c.args.name.now c.binary_search_by.result
ends c =
    let facts = c.binary_search_by.ensures in
    let by_name = facts.position (λ (read : Read). name_cmp read.name c.args.name.now) (always_returns_same _ _ _ (λ a r f called. search rules)) in
    let sorted = subst (λ (reads : List Read). IsStrictlySortedBy name_cmp (read_names (all_seen reads))) (sym c.deref.ensures.value) (reads_rise (plain_job c.self.inside.key c.self.inside.reads.items) c.self.invariant.right) in
    searched c.deref.result.now c.args.name.now _ sorted facts.bound by_name

pub returns-clause-found : goal.returns-clause-found
returns-clause-found c =
    subst (λ (it : PlainJob). IfOk c.binary_search_by.result (IsAt (read_names it.reads) c.args.name.now)) (ap (plain_job c.self.inside.key) c.deref.ensures.value ∙ c.self.view_is) (ends c).found

pub returns-clause-absent : goal.returns-clause-absent
returns-clause-absent c =
    subst (λ (it : PlainJob). IfErr c.binary_search_by.result (IsGapFor (read_names it.reads) c.args.name.now)) (ap (plain_job c.self.inside.key) c.deref.ensures.value ∙ c.self.view_is) (ends c).absent
