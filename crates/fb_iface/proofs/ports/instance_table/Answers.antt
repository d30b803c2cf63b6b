use Rattle.std.proofs.{Common.{◌≡◌, ℕ, List, ◌+◌, ◌<◌, ◌∷◌, [], ◌++◌, length, map, sym, ap, ◌∙◌, arith, take}, lemmas.Grind.{common_steps}}
use Rattle.std.proofs.lemmas.List.{map-append, take_all}
use Rattle.fb_tree.specs.{Tree.{InstanceTree, instance_tree}, declared.network.Instance.{Instance}}
use Rattle.fb_iface.specs.{Ports.{DeclaredInstance}, Names.{first_ones, with_first, with_firsts}}
use Rattle.fb_iface.proofs.{TableLemmas.{firsts_all, with_firsts-push}, TreeLemmas.{same_items}}
use Rattle.fb_iface.proofs.ports.instance_table.Goals as goal

pub loop-instance-preserved : goal.loop-instance-preserved
loop-instance-preserved c =
    let meant : Instance → List ℕ × DeclaredInstance = λ i. (i.name.name, record { role = i.role; type_name = i.type_name }) in
    let instances = c.args.network.now.instances.items in
    let n = c.loop-instance.instance-index in
    let x = c.instance-item.result in
    let slice : c.deref-instance-items.result.now ≡ instances = c.deref-instance-items.ensures.value in
    let within : n < length instances = omega (arith, ap length slice) in
    let more : take (n + 1) instances ≡ take n instances ++ x ∷ [] = grind (arith, common_steps) in
    c.in_ok-declare.ensures
    ∙ (λ i. with_first (c.loop-instance.invariant i) (c.name-name.ensures i, record { role = x.role; type_name = x.type_name }))
    ∙ sym (with_firsts-push [] (map meant (take n instances)) (meant x))
    ∙ ap (with_firsts []) (sym (ap (map meant) more ∙ map-append meant (take n instances) (x ∷ [])))

pub returns : goal.returns
returns c =
    let meant : Instance → List ℕ × DeclaredInstance = λ i. (i.name.name, record { role = i.role; type_name = i.type_name }) in
    let instances = c.args.network.now.instances.items in
    let n = c.loop-instance.instance-index in
    let slice : c.deref-instance-items.result.now ≡ instances = c.deref-instance-items.ensures.value in
    c.loop-instance.invariant
    ∙ ap (λ is. with_firsts [] (map meant is)) (take_all n instances (omega (arith, ap length slice, c.loop-instance-test.false)))
    ∙ firsts_all (map meant instances)
    ∙ ap first_ones (sym (same_items instance_tree (λ (i : InstanceTree). (i.name.name, record { role = i.role; type_name = i.type_name })) instances))
