use Rattle.std.proofs.Common.{sym, ap, ◌∙◌}
use Rattle.fb_tree.specs.Tree.{type_tree}
use Rattle.fb_iface.specs.{ByName.{meanings_by}, Names.{stands_for}, Ports.{Meanings}}
use Rattle.fb_iface.proofs.FindLemmas.{variable_in_type}
use Rattle.fb_iface.proofs.by_name.PortsByName.variable.Goals as goal

pub returns-in-Tree : goal.returns-in-Tree
returns-in-Tree c =
    let name = c.args.name.now in
    c.find_variable.ensures
    ∙ variable_in_type (type_tree c.in-Tree.declared.now) name
    ∙ ap (λ (m : Meanings). stands_for m.variables name) (ap meanings_by (sym c.in-Tree.is) ∙ c.self.view_is)
