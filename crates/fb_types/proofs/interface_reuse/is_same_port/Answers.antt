-- Ports that are told to be the same have the same of each.
use Rattle.std.proofs.Common.{◌≡◌, true, refl, sym, ◌∙◌}
use Rattle.fb_tree.specs.{declared.interface.Side.{Side}, declared.interface.Side.TheVariants.{Input, Output}}
use Rattle.fb_iface.specs.Ports.{same_side}
use Rattle.fb_network.proofs.Equals.{same_bytes, same_sorts}
use Rattle.fb_types.proofs.interface_reuse.is_same_port.Goals as goal

one_side : (a b : Side) → same_side a b ≡ true → a ≡ b
one_side Input Input e = refl
one_side Input Output e = cc
one_side Output Input e = cc
one_side Output Output e = refl

pub returns : goal.returns
returns c told =
    let sort = same_sorts c.args.a.now.sort c.args.b.now.sort (sym c.is_same_sort.ensures ∙ c.if-not-is_same_sort.false) in
    let side = one_side c.args.a.now.side c.args.b.now.side (sym c.is_same_side.ensures ∙ c.if-not-is_same_side.false) in
    let name = same_bytes c.args.a.now.name c.args.b.now.name (sym c.same_name.ensures ∙ c.if-not-same_name.false) in
    let adapter = c.is_same_adapter.ensures told in
    λ i. record { sort = sort i; side = side i; name = name i; adapter = adapter i }
