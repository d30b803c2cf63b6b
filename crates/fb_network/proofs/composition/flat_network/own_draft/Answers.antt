-- The prefix is that of the network's own texts.
use Rattle.std.proofs.Common.{Vec, [], ap, ◌∙◌}
use Rattle.fb_network.proofs.Connections.{own_put}
use Rattle.fb_network.proofs.composition.flat_network.own_draft.Goals as goal

pub returns-clause-own : goal.returns-clause-own
returns-clause-own c =
    let texts = ap (λ (texts : Vec _ _). texts.items) c.in_ok-texts.ensures.ok ∙ c.in_ok-texts_of.ensures in
    own_put c.new-draft.result.prefixes c.push_ends.new.self _ c.args.network.now c.new-draft.ensures.prefixes c.in_ok-push_ends.ensures (λ i. record { start = []; ends = texts i })
