-- Each instance that is passed is added, if its name has none yet.
use Rattle.std.proofs.{Common.{◌≡◌, ℕ, List, cond, Some, None, string_bytes, ◌∙◌, ap, sym}, lemmas.List.{take_all}}
use Rattle.std.specs.{HashMap.{get_by_text}, Option.{option_or}, Prelude.{option_map}, Borrow.{Bor}, Str.{bytes_eq}}
use Rattle.fb_tree.specs.{Tree.{InstanceTree, instance_tree}, declared.network.Instance.{Instance}}
use Rattle.fb_placing.specs.{FirstEntry.{first_at}, Tables.{instance_at}}
use Rattle.fb_placing.proofs.{FirstEntryLemmas.{first_at-map, table_step}, InstanceLemmas.{form_added}}
use Rattle.fb_placing.proofs.paths.instances.instances_by_name.Goals as goal

abbrev name : Instance → List ℕ
name i = i.name.name

abbrev form : Bor Instance → InstanceTree
form i = instance_tree i.now

pub loop-instance-preserved : goal.loop-instance-preserved
loop-instance-preserved c =
    let x = c.instance-item.result in
    let old = c.loop-instance.table in
    let text : string_bytes c.in_ok-text.text ≡ name x = c.in_ok-text.ensures.ok ∙ c.as_str.ensures.text in
    table_step name instance_tree c.args.instances.now c.loop-instance.instance-index x (instance_at old) (instance_at c.insert_first.new.table) c.loop-instance-test.true c.instance-item.is c.loop-instance.invariant
    (λ q. ap (option_map form) (c.in_ok-insert_first.ensures q) ∙ form_added form (get_by_text old q) (bytes_eq (string_bytes c.in_ok-text.text) q) _
    ∙ (λ i. option_or (instance_at old q) (cond (bytes_eq (text i) q) (Some (instance_tree x)) None)))

pub returns : goal.returns
returns c =
    let whole = take_all c.loop-instance.instance-index c.args.instances.now c.loop-instance-test.false in
    λ k q. (c.loop-instance.invariant q ∙ ap (λ (xs : List Instance). first_at name instance_tree xs q) whole ∙ sym (first_at-map instance_tree (λ (i : InstanceTree). i.name.name) (λ (i : InstanceTree). i) c.args.instances.now q)) k
