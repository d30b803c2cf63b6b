use Rattle.fb_wire.proofs.OneConversation.{one_by_steps}
use Rattle.fb_wire.proofs.laws.one_script.Goals as goal

pub returns : goal.returns
returns c = one_by_steps
