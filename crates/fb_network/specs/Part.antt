-- What is composed from a part of a view.
use Rattle.std.specs.Prelude.{◌≡◌}
use Rattle.fb_network.specs.{declared.network.End.{End}, Plain.{PlainNetwork}, PlainFlat.{PlainFlat}, Network.{View, place_of}}
use Rattle.fb_network.specs.{Clean.{IsCleanThroughout, adapter_at}, FlatNet.{IsFlat}, Ready.{Nets, AreFinished}}

-- both views have the same adapters at the ends of connections of the network
abbrev pub SameAdapters : View → View → PlainNetwork → Type 0
SameAdapters part whole network = (end : End) → adapter_at part network (place_of end) ≡ adapter_at whole network (place_of end)

-- the flat network in each view that has the adapters of the part, in which the network is clean throughout and the types of its
-- subapplication instances are finished
abbrev pub IsFlatInWhole : View → PlainNetwork → Nets → PlainFlat → Type 0
IsFlatInWhole part network nets flat =
    (whole : View)
    → SameAdapters part whole network → IsCleanThroughout whole network → AreFinished whole network nets
    → IsFlat whole network flat
