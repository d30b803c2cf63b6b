-- What is left is looked up, and nothing else is there.
use Rattle.std.proofs.Common.{cond, None, sym, ap, ◌∙◌}
use Rattle.std.specs.FinMap.{get}
use Rattle.fb_types.proofs.UncachedLemmas.{get_uncached}
use Rattle.fb_types.proofs.uncached.uncached_source.Goals as goal

pub returns-then-is_uncached-clause-text : goal.returns-then-is_uncached-clause-text
returns-then-is_uncached-clause-text g c =
    let sources = g.V.View.sources c.args.view.now in
    c.get.ensures.text
    ∙ sym (get_uncached (g.H.Hints.hints c.args.hints.now) sources c.args.unit.now c.args.name.now
    ∙ ap (λ b. cond b (get sources c.args.name.now) None) (sym c.is_uncached.ensures ∙ c.if-is_uncached.true))

pub returns-else-is_uncached-clause-text : goal.returns-else-is_uncached-clause-text
returns-else-is_uncached-clause-text g c =
    let sources = g.V.View.sources c.args.view.now in
    sym (get_uncached (g.H.Hints.hints c.args.hints.now) sources c.args.unit.now c.args.name.now
    ∙ ap (λ b. cond b (get sources c.args.name.now) None) (sym c.is_uncached.ensures ∙ c.if-is_uncached.false))
