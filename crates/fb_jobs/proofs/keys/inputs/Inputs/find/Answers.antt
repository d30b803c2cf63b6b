-- What is at the place was read under the name; in a gap there is nothing.
use Rattle.std.proofs.Common.{◌≡◌, ℕ, List, Some, get_or, sym, ap, subst, ◌∙◌}
use Rattle.std.specs.Option.{option_map}
use Rattle.fb_deploy.specs.{Library.Texts.{text_at, text_in}, Library.Place.{IsAt, IsGapFor}}
use Rattle.fb_jobs.specs.{declared.keys.key.Key.{Key}, declared.keys.read.Read.{Read}, Reads.{PlainJob, IsRight, read_names, read_texts}, Values.{all_seen, found_in}}
use Rattle.fb_jobs.specs.Finished.{plain_job}
use Rattle.fb_jobs.proofs.{Currents.{reads_rise}, Searches.{own_there, text_there, none_in_gap}}
use Rattle.fb_jobs.proofs.keys.inputs.Inputs.find.Goals as goal

found : (key : Key) (reads : List Read) (order : PlainJob) (name : List ℕ) (at : ℕ) (read : Read) → plain_job key reads ≡ order → IsRight (plain_job key reads) → IsAt (read_names order.reads) name at → read ≡ get_or reads at read → text_at (read_texts order.reads) name ≡ option_map text_in (found_in read.revision read.source)
found key reads order name at read is right named there =
    sym (ap (λ (it : PlainJob). text_at (read_texts it.reads) name) is)
    ∙ text_there reads name at read (reads_rise (plain_job key reads) right) (subst (λ (it : PlainJob). IsAt (read_names it.reads) name at) (sym is) named) there

pub returns-in-Some-clause-text : goal.returns-in-Some-clause-text
returns-in-Some-clause-text c =
    ap (λ it. Some it.text) c.deref.ensures
    ∙ sym (found c.self.inside.key c.self.inside.reads.items c.args.self.now c.args.name.now c.in-Ok.at c.index.result.now c.self.view_is c.self.invariant.right c.in-Ok.ensures.found c.index.ensures
    ∙ ap (λ source. option_map text_in (found_in c.index.result.now.revision source)) c.in-Some.is)

pub returns-in-None-clause-text : goal.returns-in-None-clause-text
returns-in-None-clause-text c =
    sym (found c.self.inside.key c.self.inside.reads.items c.args.self.now c.args.name.now c.in-Ok.at c.index.result.now c.self.view_is c.self.invariant.right c.in-Ok.ensures.found c.index.ensures
    ∙ ap (λ source. option_map text_in (found_in c.index.result.now.revision source)) c.in-None.is)

pub returns-in-Err-clause-text : goal.returns-in-Err-clause-text
returns-in-Err-clause-text c =
    let name = c.args.name.now in
    let reads = all_seen c.self.inside.reads.items in
    let gap = subst (λ (it : PlainJob). IsGapFor (read_names it.reads) name c.in-Err.field-0) (sym c.self.view_is) c.in-Err.ensures.absent in
    sym (ap (option_map text_in) (none_in_gap reads name c.in-Err.field-0 gap)) ∙ ap (λ (it : PlainJob). text_at (read_texts it.reads) name) c.self.view_is

pub returns-in-Some-clause-own : goal.returns-in-Some-clause-own
returns-in-Some-clause-own c =
    let reads = c.self.inside.reads.items in
    let read = c.index.result.now in
    let named : IsAt (read_names (all_seen reads)) c.args.name.now c.in-Ok.at = subst (λ (it : PlainJob). IsAt (read_names it.reads) c.args.name.now c.in-Ok.at) (sym c.self.view_is) c.in-Ok.ensures.found in
    ap (λ it. it.unit) c.deref.ensures ∙ own_there reads c.args.name.now c.in-Ok.at read _ c.self.invariant.own named c.index.ensures c.in-Some.is
