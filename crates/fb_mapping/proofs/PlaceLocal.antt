-- The placement of a system depends on the texts alone that the system rests on.
use Rattle.std.proofs.Common.{ℕ, ◌≡◌, List, refl, ◌∙◌, ap}
use Rattle.fb_flatten.specs.{Library.View.{Sources}, Library.Local.{AgreeFar}, Net.{PlainNet, blocked, recursive, too_large, flat_net}}
use Rattle.fb_flatten.proofs.NetLocality.{net_local}
use Rattle.fb_placing.proofs.{HomesLocal.{homes_same}, ResolvedLocal.{same_instances}}
use Rattle.fb_mapping.specs.{Laws.{PlaceIsLocal}, Placed.{placed_by, with_cuts}}

module _ (a b : Sources) (system : List ℕ) (agree : AgreeFar system a b) where
  placed_same : (net : PlainNet) → placed_by a system net ≡ placed_by b system net
  placed_same (blocked names) = refl
  placed_same (recursive names) = refl
  placed_same too_large = refl
  placed_same (flat_net flat) = ap (with_cuts flat.links) (homes_same a b system (same_instances a b system agree) flat.blocks)

pub place_local : PlaceIsLocal
place_local a b system agree placed p = record {
  net = p.net;
  is_net = net_local a b system agree p.net p.is_net;
  placed_is = p.placed_is ∙ placed_same a b system agree p.net;
}
