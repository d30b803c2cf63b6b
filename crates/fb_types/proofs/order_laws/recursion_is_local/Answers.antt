use Rattle.fb_types.proofs.OrderLocality.{recursion_local}
use Rattle.fb_types.proofs.order_laws.recursion_is_local.Goals as goal

pub returns : goal.returns
returns c = recursion_local
