use Rattle.std.proofs.{Common.{◌++◌, ◌∙◌, [], ap, map, sym, if◌then◌else◌}, lemmas.Result.{on_ok_weaker}}
use Rattle.fb_tree.specs.Tree.{parameter_tree}
use Rattle.fb_iface.specs.{Declarations.{space_duplicates}, Spaces.{is_block}}
use Rattle.fb_iface.proofs.TreeLemmas.{parameters_named}
use Rattle.fb_iface.proofs.repeats.report_in_instance.Goals as goal

pub returns-in-Block : goal.returns-in-Block
returns-in-Block c =
    let instance = c.args.instance.now in
    let old = c.args.found.now.items in
    on_ok_weaker c.report_repeated.result
    (λ e. e
    ∙ ap (λ l. old ++ space_duplicates (map (λ p. p.name) l)) c.as_slice.ensures.value
    ∙ ap (λ l. old ++ space_duplicates l) (parameters_named instance.parameters.items)
    ∙ ap (λ role. old ++ space_duplicates (if is_block role then map (λ p. p.name) (map parameter_tree instance.parameters.items) else [])) (sym c.in-Block.is))
    c.report_repeated.ensures
