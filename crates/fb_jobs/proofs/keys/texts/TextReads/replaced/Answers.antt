use Rattle.std.proofs.Common.{ap, ◌∙◌}
use Rattle.fb_jobs.specs.Replaced.{all_replaced}
use Rattle.fb_jobs.proofs.ReplacedLemmas.{replaced_after}
use Rattle.fb_jobs.proofs.keys.texts.TextReads.replaced.Goals as goal

pub returns : goal.returns
returns c =
    let list = c.self.inside.list.value in
    let later = c.args.later.items in
    (λ k. all_replaced (c.in_ok-list.ensures.cases k) (c.in_ok-append.ensures.items k))
    ∙ replaced_after list c.in_ok-replacements.replacements.items later
    ∙ ap (λ reads. all_replaced reads later) (c.in_ok-replacements.ensures list ∙ ap (all_replaced list) c.deref.ensures.value ∙ c.self.view_is)
