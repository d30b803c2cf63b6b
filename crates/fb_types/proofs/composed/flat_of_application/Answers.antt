-- What is composed stands under the application's name.
use Rattle.std.proofs.Common.{refl}
use Rattle.fb_types.proofs.composed.flat_of_application.Goals as goal

pub returns : goal.returns
returns g c whole can = record { name = refl; net = c.in_ok-flat.ensures whole can.same can.clean can.finished }
