use Rattle.std.proofs.{Common.{◌≡◌, ◌+◌, ◌<◌, ◌∷◌, [], ◌++◌, append-nil, length, sym, ap, ◌∙◌, arith, take}, lemmas.Grind.{common_steps, flat_map-append}}
use Rattle.std.proofs.{lemmas.List.{take_all}, lemmas.List.Folds.{flat_map-map}}
use Rattle.std.specs.List.{flat_map}
use Rattle.fb_tree.specs.{Tree.{variables_tree}, declared.interface.Variables.{Variables}}
use Rattle.fb_iface.specs.{Names.{first_ones, with_firsts}, Ports.{variables_together}}
use Rattle.fb_iface.proofs.TableLemmas.{firsts_all, with_firsts-append}
use Rattle.fb_iface.proofs.ports.variable_table.Goals as goal

pub loop-group-preserved : goal.loop-group-preserved
loop-group-preserved c =
    let meant = λ (v : Variables). variables_together (variables_tree v) in
    let groups = c.args.groups.now in
    let n = c.loop-group.group-index in
    let x = c.group-item.result in
    let within : n < length groups = omega arith in
    let more : take (n + 1) groups ≡ take n groups ++ x ∷ [] = grind (arith, common_steps) in
    c.in_ok-declare_together.ensures
    ∙ ap (λ l. with_firsts l (meant x)) c.loop-group.invariant
    ∙ sym (with_firsts-append [] (flat_map meant (take n groups)) (meant x))
    ∙ ap (λ l. with_firsts [] (flat_map meant (take n groups) ++ l)) (sym (append-nil (meant x)))
    ∙ ap (with_firsts []) (sym (ap (flat_map meant) more ∙ flat_map-append meant (take n groups) (x ∷ [])))

pub returns : goal.returns
returns c =
    let meant = λ (v : Variables). variables_together (variables_tree v) in
    let groups = c.args.groups.now in
    c.loop-group.invariant
    ∙ ap (λ l. with_firsts [] (flat_map meant l)) (take_all c.loop-group.group-index groups (omega arith))
    ∙ firsts_all (flat_map meant groups)
    ∙ ap first_ones (sym (flat_map-map variables_together variables_tree groups))
