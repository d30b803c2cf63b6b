use Rattle.fb_messages.proofs.Entries.{WillBeList}
use Rattle.fb_messages.proofs.to_json.VecToJson.write.Given as goal

abbrev pub invariant-loop-item : goal.invariant-loop-item
invariant-loop-item g l = WillBeList g.T.ToJson.said l.self.items l.item-index l.fn.out l.out
