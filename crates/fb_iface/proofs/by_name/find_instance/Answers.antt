use Rattle.std.proofs.Common.{sym, ap, ◌∙◌, option_map}
use Rattle.std.specs.{List.{find}, Option.{option_copied}}
use Rattle.fb_tree.specs.declared.network.Instance.{Instance}
use Rattle.fb_iface.specs.Names.{is_same}
use Rattle.fb_iface.proofs.FindLemmas.{instance_found, instance_meaning}
use Rattle.fb_iface.proofs.by_name.find_instance.Goals as goal

pub returns-in-Some : goal.returns-in-Some
returns-in-Some c =
    let name = c.args.name.now in
    ap (option_map instance_meaning) (sym (ap option_copied c.in-Some.is) ∙ c.first_named.ensures ∙ ap (find (λ (d : Instance). is_same d.name.name name)) c.as_slice.ensures.value)
    ∙ sym (instance_found c.args.network.now name)

pub returns-in-None : goal.returns-in-None
returns-in-None c =
    let name = c.args.name.now in
    ap (option_map instance_meaning) (sym (ap option_copied c.in-None.is) ∙ c.first_named.ensures ∙ ap (find (λ (d : Instance). is_same d.name.name name)) c.as_slice.ensures.value)
    ∙ sym (instance_found c.args.network.now name)
