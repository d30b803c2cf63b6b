use Rattle.std.proofs.{Common.{◌≡◌, ℕ, List, ◌+◌, ◌<◌, ◌∷◌, [], ◌++◌, length, map, sym, ap, ◌∙◌, arith, take}, lemmas.Grind.{common_steps}}
use Rattle.std.proofs.lemmas.List.{map-append, take_all}
use Rattle.fb_tree.specs.Text.declared.name.NameUse.{NameUse}
use Rattle.fb_iface.specs.{Ports.{DeclaredVariable}, Names.{with_first, with_firsts}}
use Rattle.fb_iface.proofs.TableLemmas.{with_firsts-push}
use Rattle.fb_iface.proofs.ports.declare_together.Goals as goal

pub loop-name-preserved : goal.loop-name-preserved
loop-name-preserved c =
    let group = c.args.group.now in
    let meant : NameUse → List ℕ × DeclaredVariable = λ n. (n.name, record { section = group.section; type_use = group.type_use }) in
    let names = group.names.items in
    let n = c.loop-name.name-index in
    let x = c.name-item.result in
    let slice : c.deref-name-items.result.now ≡ names = c.deref-name-items.ensures.value in
    let within : n < length names = omega (arith, ap length slice) in
    let more : take (n + 1) names ≡ take n names ++ x ∷ [] = grind (arith, common_steps) in
    c.in_ok-declare.ensures
    ∙ (λ i. with_first (c.loop-name.invariant i) (c.name.ensures i, record { section = group.section; type_use = group.type_use }))
    ∙ sym (with_firsts-push c.args.table.now.entries (map meant (take n names)) (meant x))
    ∙ ap (with_firsts c.args.table.now.entries) (sym (ap (map meant) more ∙ map-append meant (take n names) (x ∷ [])))

pub returns : goal.returns
returns c =
    let group = c.args.group.now in
    let meant : NameUse → List ℕ × DeclaredVariable = λ n. (n.name, record { section = group.section; type_use = group.type_use }) in
    let names = group.names.items in
    let slice : c.deref-name-items.result.now ≡ names = c.deref-name-items.ensures.value in
    c.loop-name.invariant
    ∙ ap (λ ns. with_firsts c.args.table.now.entries (map meant ns)) (take_all c.loop-name.name-index names (omega (arith, ap length slice, c.loop-name-test.false)))
