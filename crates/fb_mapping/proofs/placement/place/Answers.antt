-- The placement of the flat network that was found.
use Rattle.std.proofs.{Common.{ap, subst}, lemmas.Result.{IfOk-weaker}}
use Rattle.fb_flatten.specs.Net.{IsNet, flat_net, plain_net}
use Rattle.fb_mapping.proofs.placement.place.Goals as goal

pub returns-in-Flat : goal.returns-in-Flat
returns-in-Flat g c =
    let sources = g.V.View.sources c.args.view.now in
    IfOk-weaker c.place_flat.result _ _
    (λ placed is. record { net = flat_net c.in-Flat.flat; is_net = subst (IsNet sources c.args.system) (ap plain_net c.in-Flat.is) c.in_ok-stopped.ensures.is; placed_is = is })
    c.place_flat.ensures
