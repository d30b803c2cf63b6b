-- A subapplication or a system is looked up, and nothing else is there.
use Rattle.std.proofs.Common.{cond, None, sym, ap, ◌∙◌}
use Rattle.std.specs.FinMap.{get}
use Rattle.fb_types.proofs.UncachedLemmas.{get_holder}
use Rattle.fb_types.proofs.holders.source_of_holder.Goals as goal

pub returns-then-has_net-clause-text : goal.returns-then-has_net-clause-text
returns-then-has_net-clause-text g c =
    let sources = g.V.View.sources c.args.view.now in
    c.get.ensures.text
    ∙ sym (get_holder sources c.args.name.now ∙ ap (λ b. cond b (get sources c.args.name.now) None) (sym c.has_net.ensures.told ∙ c.if-has_net.true))

pub returns-else-has_net-clause-text : goal.returns-else-has_net-clause-text
returns-else-has_net-clause-text g c =
    let sources = g.V.View.sources c.args.view.now in
    sym (get_holder sources c.args.name.now ∙ ap (λ b. cond b (get sources c.args.name.now) None) (sym c.has_net.ensures.told ∙ c.if-has_net.false))
