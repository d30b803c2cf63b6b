use Rattle.std.proofs.{Common.{ap, ◌∙◌}, lemmas.Iterator.Adapters.{YieldsList-from_vec}, lemmas.Iterator.Consumers.{YieldsList-end}}
use Rattle.fb_tree.specs.Expression.{reference_tree}
use Rattle.fb_structured_text.proofs.Joining.{joined_none, joined_more, joined_all}
use Rattle.fb_structured_text.proofs.references.joined.Goals as goal

pub loop-part-init : goal.loop-part-init
loop-part-init c = rw c.in_ok-members.ensures.items (joined_none c.args.first)

pub loop-part-preserved : goal.loop-part-preserved
loop-part-preserved c =
    joined_more c.args.first c.loop-part.yielded c.loop-part.members.items c.push.new.self.items c.loop-part.subscripts.items c.append.new.self.items c.loop-part.end c.in-Some.part _
    c.loop-part.invariant c.in_ok-push.ensures.items (λ i. record { name = c.in-Some.part.name; subscripts = (c.len-in-loop-part.ensures ∙ c.in-Some.part.subscripts.ok.0) i }) c.in_ok-append.ensures.items

pub returns : goal.returns
returns c =
    let others = c.args.others.items in
    let gives = c.into_iter-part-iterator.ensures.into_iter_gives in
    let all = YieldsList-end (YieldsList-from_vec others gives.0 (gives.1 ∙ c.args.others.ok.0)) c.loop-part.yielded c.loop-part.part-iterator c.loop-part.yielded_by c.next.result c.next.new.self c.in-None.is c.next.ensures.steps in
    joined_all c.args.first c.loop-part.yielded others c.loop-part.members.items c.loop-part.subscripts.items c.loop-part.end c.len-count.result _
    c.loop-part.invariant all.0 (c.len-count.ensures ∙ c.args.first.subscripts.ok.0) (ap reference_tree c.in_ok-new.ensures.ok ∙ c.in_ok-reference.ensures)
