use Rattle.std.proofs.{Common.{◌≡◌, ◌≤◌, ◌++◌, ◌∙◌, append-nil, ap, length, map, sym, arith}, lemmas.List.Folds.{flat_map-map}}
use Rattle.std.specs.List.{flat_map}
use Rattle.fb_tree.specs.{Text.declared.name.NameUse.{NameUse}, Tree.{interface_tree, variables_tree}, declared.interface.Variables.{Variables}}
use Rattle.fb_iface.specs.{Fault.{faults_at}, Names.{first_ones}, Ports.{variables_in}, declared.code.Code.TheVariants.{Duplicate}}
use Rattle.fb_iface.proofs.CountLemmas.{none_again, variables_named}
use Rattle.fb_iface.proofs.repeats.report_variables.Goals as goal

pub returns-else-are_more : goal.returns-else-are_more
returns-else-are_more c =
    let interface = c.args.interface.now in
    let groups = interface.variables.items in
    let names = flat_map (λ (v : Variables). v.names.items) groups in
    let old = c.args.found.now.items in
    let declared = variables_in (interface_tree interface) in
    let slice : flat_map (λ (v : Variables). v.names.items) c.as_slice-groups.result.now ≡ names = ap (flat_map (λ (v : Variables). v.names.items)) c.as_slice-groups.ensures.value in
    let none : length names ≤ c.args.different = grind (arith, c.if-are_more.ensures, ap length slice) in
    let many : length names ≤ length (first_ones declared) = omega (arith, none, c.requires) in
    let same = variables_named (interface_tree interface).variables ∙ ap (map (λ (n : NameUse). n.name)) (flat_map-map (λ v. v.names) variables_tree groups) in
    sym (append-nil old)
    ∙ ap (λ l. old ++ faults_at Duplicate l) (sym (none_again declared names same many))
