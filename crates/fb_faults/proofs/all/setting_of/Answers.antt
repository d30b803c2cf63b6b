use Rattle.std.proofs.Common.{◌≡◌, ◌∙◌}
use Rattle.fb_tree.specs.Tree.{type_tree}
use Rattle.fb_netcheck.specs.{Iface.ScopeTypes.{scope_in}, Iface.Scope.{scope_of_type, type_ports_of}}
use Rattle.fb_faults.proofs.all.setting_of.Goals as goal

pub returns : goal.returns
returns g c =
    let sources = g.V.View.sources c.args.view.now in
    let d = type_tree c.args.declared.now in
    let scope : scope_in c.in_ok-scope.scope ≡ scope_of_type sources d = c.in_ok-scope.ensures ∙ (λ i. record { own = c.requires i; type_ports = type_ports_of sources d.network }) in
    λ i. record { unit = c.args.unit.now; kind = c.args.kind; scope = scope i }
