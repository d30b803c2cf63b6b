-- One share more.
use Rattle.std.proofs.{Common.{◌≡◌, List, ◌+◌, ◌++◌, ◌∷◌, [], take, map, ap, sym, ◌∙◌, arith, rules}, lemmas.Grind.{common_steps}, lemmas.List.{map-append}}
use Rattle.fb_entries.specs.Jobs.declared.kept.hints.Hint.{Hint}
use Rattle.fb_bench.specs.Founds.{said}
use Rattle.fb_bench.proofs.found.shares_of.Goals as goal

pub loop-hint-preserved : goal.loop-hint-preserved
loop-hint-preserved c =
    let hint : Hint = c.hint-item.result in
    let prefix : List Hint = take c.loop-hint.hint-index c.args.found.now in
    let more : take (c.loop-hint.hint-index + 1) c.args.found.now ≡ prefix ++ hint ∷ [] = grind (arith, common_steps) in
    let share : c.in_ok-clone.field-0.value ≡ hint.value.value = search rules in
    ap (map said) c.in_ok-push.ensures.items ∙ map-append said c.loop-hint.shares.items _
    ∙ (λ i. c.loop-hint.invariant i ++ (hint.unit, share i) ∷ [])
    ∙ sym (map-append said prefix (hint ∷ [])) ∙ ap (map said) (sym more)
