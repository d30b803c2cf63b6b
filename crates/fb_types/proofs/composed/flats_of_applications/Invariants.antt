-- The applications passed so far have what is composed of them.
use Rattle.std.proofs.Common.{take}
use Rattle.std.specs.BTreeMap.{get}
use Rattle.fb_tree.specs.Text.Order.{name_cmp}
use Rattle.fb_network.specs.Network.{View}
use Rattle.fb_types.specs.{Tables.{AreComposable}, Units.{AreFlatApplications}}
use Rattle.fb_types.proofs.composed.flats_of_applications.Given as goal

abbrev pub invariant-loop-application : goal.invariant-loop-application
invariant-loop-application g l =
    (whole : View) → AreComposable (get name_cmp l.table) whole (g.N.Nets.nets l.nets) l.applications
    → AreFlatApplications whole (take l.application-index l.applications) l.flats.items
