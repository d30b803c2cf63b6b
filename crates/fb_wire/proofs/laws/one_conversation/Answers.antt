use Rattle.fb_wire.proofs.OneConversation.{one_by_answers}
use Rattle.fb_wire.proofs.laws.one_conversation.Goals as goal

pub returns : goal.returns
returns c = one_by_answers
