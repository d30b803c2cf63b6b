-- The adapter of a port of an instance is that of the instance's type.
use Rattle.std.proofs.Common.{◌∙◌, ap, sym}
use Rattle.std.specs.{Prelude.{option_and_then}, Option.{option_copied}, BTreeMap.{get}}
use Rattle.fb_tree.specs.Text.Order.{name_cmp}
use Rattle.fb_network.specs.declared.network.Instance.{Instance}
use Rattle.fb_network.proofs.Connections.{standing_type}
use Rattle.fb_network.proofs.network.adapters.find_adapter.Goals as goal

pub returns-in-Some : goal.returns-in-Some
returns-in-Some g c =
    let view = g.V.Networks.networks c.args.view.now in
    let type = sym (ap option_copied c.in-Some.is) ∙ c.find_type.ensures ∙ standing_type view (get name_cmp c.args.table.now c.in-Of.name) ∙ ap (option_and_then (λ (i : Instance). view i.type_name)) (c.requires c.in-Of.name) in
    rw (c.in-Of.is, ← type) c.find_port_adapter-in-Some.ensures

pub returns-in-None : goal.returns-in-None
returns-in-None g c =
    let view = g.V.Networks.networks c.args.view.now in
    let type = sym (ap option_copied c.in-None.is) ∙ c.find_type.ensures ∙ standing_type view (get name_cmp c.args.table.now c.in-Of.name) ∙ ap (option_and_then (λ (i : Instance). view i.type_name)) (c.requires c.in-Of.name) in
    rw (c.in-Of.is, ← type)
