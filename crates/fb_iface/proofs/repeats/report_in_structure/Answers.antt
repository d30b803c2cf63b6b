use Rattle.std.proofs.{Common.{◌++◌, ◌∙◌, ap, map}, lemmas.Result.{on_ok_weaker}}
use Rattle.std.specs.List.{flat_map}
use Rattle.fb_iface.specs.Declarations.{space_duplicates}
use Rattle.fb_iface.proofs.TreeLemmas.{structure_joined}
use Rattle.fb_iface.proofs.repeats.report_in_structure.Goals as goal

pub returns : goal.returns
returns c =
    let structure = c.args.structure.now in
    let old = c.args.found.now.items in
    on_ok_weaker c.report_repeated.result
    (λ e. e
    ∙ ap (λ l. old ++ space_duplicates (map (λ n. n) l)) c.as_slice-2.ensures.value
    ∙ structure_joined old structure c.in_ok-fields.fields.items (c.in_ok-fields.ensures ∙ ap (flat_map (λ v. v.names.items)) c.as_slice.ensures.value))
    c.report_repeated.ensures
