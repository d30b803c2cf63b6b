-- A flat network is that of a network (IEC 61499-1, 5.4: subapplication types; 5.5: adapters).
use Rattle.std.specs.List.Sorted.{IsStrictlySortedBy}
use Rattle.fb_network.specs.{Plain.{PlainNetwork}, PlainFlat.{PlainFlat}, LinkOrder.{link_cmp, border_cmp}, Network.{View}, Flat.{AreLinks, AreBorders}}
use Rattle.fb_network.specs.Instances.{AreBlocks}

-- it has the blocks of the network, and its links and its borders, in order, each once
pub record IsFlat (view : View) (network : PlainNetwork) (flat : PlainFlat) : Type 0 where
  pub blocks : AreBlocks view network flat.blocks
  pub links : AreLinks view network flat.links
  pub borders : AreBorders view network flat.borders
  pub links_sorted : IsStrictlySortedBy link_cmp flat.links
  pub borders_sorted : IsStrictlySortedBy border_cmp flat.borders
