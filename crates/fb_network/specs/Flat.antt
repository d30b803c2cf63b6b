-- The links and borders of a flat network (IEC 61499-1, 5.4: subapplication types; 5.5: adapters).
use Rattle.std.specs.Prelude.{ℕ, ◌≡◌, List, Contains}
use Rattle.fb_tree.specs.declared.network.Sort.{Sort}
use Rattle.fb_network.specs.{Plain.{PlainNetwork}, declared.flat.Link.{Link}, declared.flat.Border.{Border}, Network.{View, Place, IsBorder}}
use Rattle.fb_network.specs.{NetLink.{IsNetLink}, Printed.{printed}}

-- the link names two places that the network links
pub record PrintsLink (view : View) (network : PlainNetwork) (l : Link) : Type 0 where
  pub from_place : Place
  pub to_place : Place
  pub from_is : l.from ≡ printed from_place
  pub to_is : l.to ≡ printed to_place
  pub link : IsNetLink view network l.sort from_place to_place

-- the border names a place that a chain joins with its port
pub record PrintsBorder (view : View) (network : PlainNetwork) (b : Border) : Type 0 where
  pub at : Place
  pub place_is : b.place ≡ printed at
  pub border : IsBorder view network b.sort b.port at

-- the links of the list are those of the network
pub record AreLinks (view : View) (network : PlainNetwork) (links : List Link) : Type 0 where
  pub sound : (l : Link) → Contains links l → PrintsLink view network l
  pub complete :
      (sort : Sort) (a b : Place) → IsNetLink view network sort a b
      → Contains links (record { sort = sort; from = printed a; to = printed b })

-- the borders of the list are those of the network
pub record AreBorders (view : View) (network : PlainNetwork) (borders : List Border) : Type 0 where
  pub sound : (b : Border) → Contains borders b → PrintsBorder view network b
  pub complete :
      (sort : Sort) (port : List ℕ) (a : Place) → IsBorder view network sort port a
      → Contains borders (record { sort = sort; port = port; place = printed a })
