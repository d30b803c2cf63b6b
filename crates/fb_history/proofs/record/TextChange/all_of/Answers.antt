use Rattle.std.proofs.{Common.{◌≡◌, ◌+◌, ◌++◌, [], ◌∷◌, take, arith, ap, sym, ◌∙◌}, lemmas.Grind.{common_steps}, lemmas.List.{map-append}}
use Rattle.fb_jobs.specs.Library.Changes.{edit_of, edits_of}
use Rattle.fb_history.specs.Records.{text_edit, text_edits}
use Rattle.fb_history.proofs.record.TextChange.all_of.Goals as goal

pub loop-change-preserved : goal.loop-change-preserved
loop-change-preserved c =
    let changes = c.args.changes.now in
    let i = c.loop-change.change-index in
    let change = c.change-item.result in
    let made = c.in_ok-of_change.field-0 in
    let more : take (i + 1) changes ≡ take i changes ++ change ∷ [] = grind (arith, common_steps) in
    ap text_edits c.in_ok-push.ensures.items
    ∙ map-append text_edit c.loop-change.made.items (made ∷ [])
    ∙ (λ k. c.loop-change.invariant k ++ c.in_ok-of_change.ensures k ∷ [])
    ∙ sym (map-append edit_of (take i changes) (change ∷ []))
    ∙ sym (ap edits_of more)
