-- The placement of a system on its resources (IEC 61499-1, clause 7: system configurations).
use Rattle.std.specs.Prelude.{ℕ, ◌≡◌, List, Some}
use Rattle.fb_placing.specs.{Tree.declared.kinds.UnitKind.TheVariants.{System}, Network.declared.flat.Link.{Link}, Network.PlainFlat.{PlainFlat}}
use Rattle.fb_placing.specs.{declared.homes.Home.{Home}, declared.homes.Misplaced.{Misplaced}, Cuts.{cuts_of, home_at}}
use Rattle.fb_placing.specs.Homes.{PlainHomes, faulty_homes, all_homes, homes_of}
use Rattle.fb_flatten.specs.{Library.View.{Sources}, Wiring.ByName.{kind_at}, Net.{PlainNet, IsNet, blocked, recursive, too_large, flat_net, plain_net}}
use Rattle.fb_mapping.specs.declared.placement.Placed.{Placed}
use Rattle.fb_mapping.specs.declared.placement.Placed.TheVariants as placed

-- systems are placed
abbrev pub IsSystem : Sources → List ℕ → Type 0
IsSystem sources unit = kind_at sources unit ≡ Some System

-- a placement as a plain value: why there is no flat network, what is misplaced, or homes and cuts
pub data PlainPlaced : Type 0 where
  stopped : PlainNet → PlainPlaced
  faulty : List Misplaced → PlainPlaced
  on : List Home → List Link → PlainPlaced

-- the placement of the program as a plain value, without its place in memory
abbrev pub plain_placed : Placed → PlainPlaced
plain_placed (placed.Stopped net) = stopped (plain_net net)
plain_placed (placed.Faulty found) = faulty found.items
plain_placed (placed.On homes cuts) = on homes.items cuts.items

abbrev pub with_cuts : List Link → PlainHomes → PlainPlaced
with_cuts links (faulty_homes found) = faulty found
with_cuts links (all_homes homes) = on homes (cuts_of (home_at homes) links)

abbrev pub flat_placed : Sources → List ℕ → PlainFlat → PlainPlaced
flat_placed sources system flat = with_cuts flat.links (homes_of sources system flat.blocks)

-- the placement of a system whose net this is
abbrev pub placed_by : Sources → List ℕ → PlainNet → PlainPlaced
placed_by sources system (blocked names) = stopped (blocked names)
placed_by sources system (recursive names) = stopped (recursive names)
placed_by sources system too_large = stopped too_large
placed_by sources system (flat_net flat) = flat_placed sources system flat

-- the placement of a system: its net if that is not flat, what is misplaced if anything is, or the homes of its blocks and the links
-- between blocks with different homes
pub record IsPlaced (sources : Sources) (system : List ℕ) (placed : PlainPlaced) : Type 0 where
  pub net : PlainNet
  pub is_net : IsNet sources system net
  pub placed_is : placed ≡ placed_by sources system net
