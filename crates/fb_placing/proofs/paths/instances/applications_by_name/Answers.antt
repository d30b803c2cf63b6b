-- Each application that is passed is added, if its name has none yet.
use Rattle.std.proofs.{Common.{◌≡◌, ℕ, List, Option, cond, Some, None, string_bytes, ◌∙◌, ap, sym, map}, lemmas.List.{take_all}}
use Rattle.std.specs.{HashMap.{get_by_text}, Option.{option_or}, Prelude.{option_map}, Str.{bytes_eq}}
use Rattle.fb_tree.specs.{Tree.{ApplicationTree, InstanceTree, application_tree, instance_tree}, declared.system.Application.{Application}}
use Rattle.fb_tree.specs.declared.network.Instance.{Instance}
use Rattle.fb_placing.specs.{FirstEntry.{first_at}, Resolved.{instance_called}, Tables.{instance_at}}
use Rattle.fb_placing.proofs.{FirstEntryLemmas.{first_at-map, table_step}, InstanceLemmas.{called_in, form_added}}
use Rattle.fb_placing.proofs.paths.instances.applications_by_name.Goals as goal

abbrev name : Application → List ℕ
name a = a.name.name

pub loop-application-preserved : goal.loop-application-preserved
loop-application-preserved c =
    let x = c.application-item.result in
    let old = get_by_text c.loop-application.table in
    let before : List ℕ → Option (List ℕ → Option InstanceTree) = λ q. option_map instance_at (old q) in
    let text : string_bytes c.in_ok-text.text ≡ name x = c.in_ok-text.ensures.ok ∙ c.as_str.ensures.text in
    let same : instance_at c.in_ok-instances.instances ≡ called_in x = c.in_ok-instances.ensures ∙ ap (λ (xs : List Instance). instance_called (map instance_tree xs)) c.as_slice.ensures.value in
    table_step name called_in c.args.applications.now c.loop-application.application-index x before (λ q. option_map instance_at (get_by_text c.insert_first.new.table q)) c.loop-application-test.true c.application-item.is c.loop-application.invariant
    (λ q. ap (option_map instance_at) (c.in_ok-insert_first.ensures q) ∙ form_added instance_at (old q) (bytes_eq (string_bytes c.in_ok-text.text) q) c.in_ok-instances.instances
    ∙ (λ i. option_or (before q) (cond (bytes_eq (text i) q) (Some (same i)) None)))

pub returns : goal.returns
returns c =
    let whole = take_all c.loop-application.application-index c.args.applications.now c.loop-application-test.false in
    λ q. c.loop-application.invariant q ∙ ap (λ (xs : List Application). first_at name called_in xs q) whole
    ∙ sym (first_at-map application_tree (λ (a : ApplicationTree). a.name.name) (λ (a : ApplicationTree). instance_called a.network.instances) c.args.applications.now q)
