-- A system has one placement only.
use Rattle.std.proofs.Common.{sym, ◌∙◌, ap}
use Rattle.fb_flatten.proofs.OneNet.{one_net_only}
use Rattle.fb_mapping.specs.{Laws.{OnePlace}, Placed.{placed_by}}

pub one_placement : OnePlace
one_placement sources system a b p q =
    p.placed_is ∙ ap (placed_by sources system) (one_net_only sources system p.net q.net p.is_net q.is_net) ∙ sym q.placed_is
