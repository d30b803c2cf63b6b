use Rattle.std.proofs.Common.{sym, ap, ◌∙◌, option_map}
use Rattle.std.specs.{List.{find}, Option.{option_copied}}
use Rattle.fb_tree.specs.declared.interface.Variables.{Variables}
use Rattle.fb_iface.specs.Names.{has_name}
use Rattle.fb_iface.proofs.FindLemmas.{variable_found, variable_meaning}
use Rattle.fb_iface.proofs.by_name.find_variable.Goals as goal

pub returns-in-Some : goal.returns-in-Some
returns-in-Some c =
    let name = c.args.name.now in
    ap (option_map variable_meaning) (sym (ap option_copied c.in-Some.is) ∙ c.first_group.ensures ∙ ap (find (λ (v : Variables). has_name v.names.items name)) c.as_slice.ensures.value)
    ∙ sym (variable_found c.args.interface.now name)

pub returns-in-None : goal.returns-in-None
returns-in-None c =
    let name = c.args.name.now in
    ap (option_map variable_meaning) (sym (ap option_copied c.in-None.is) ∙ c.first_group.ensures ∙ ap (find (λ (v : Variables). has_name v.names.items name)) c.as_slice.ensures.value)
    ∙ sym (variable_found c.args.interface.now name)
