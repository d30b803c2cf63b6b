use Rattle.std.proofs.{Common.{◌≡◌, ◌+◌, ◌++◌, [], ◌∷◌, set, take, arith, ap, sym, ◌∙◌}, lemmas.Grind.{common_steps}}
use Rattle.fb_jobs.specs.{Library.Filed.{filed_text}, Replaced.{all_replaced}, Texts.{there}}
use Rattle.fb_jobs.proofs.ReplacedLemmas.{replaced_after}
use Rattle.fb_jobs.proofs.keys.texts.shared.Goals as goal

pub loop-it-preserved : goal.loop-it-preserved
loop-it-preserved c reads =
    let i = c.loop-it.it-index in
    let it = c.it-item.result in
    let more : take (i + 1) c.args.replacements.now ≡ take i c.args.replacements.now ++ it ∷ [] = grind (arith, common_steps) in
    ap (all_replaced reads) c.in_ok-push.ensures.items
    ∙ replaced_after reads c.loop-it.all.items (record { place = it.place; version = c.in_ok-clone.field-0 } ∷ [])
    ∙ (λ k. set (c.loop-it.invariant reads k) it.place (there (filed_text (c.in_ok-clone.ensures.cases k))))
    ∙ sym (replaced_after reads (take i c.args.replacements.now) (it ∷ []))
    ∙ sym (ap (all_replaced reads) more)
