use Rattle.std.proofs.{Common.{◌≡◌, ◌+◌, ◌∷◌, [], ◌++◌, arith, take, filter, sym, ap, ◌∙◌}, lemmas.Grind.{common_steps}}
use Rattle.fb_iface.specs.Library.Seen.{has_name}
use Rattle.fb_types.proofs.{FilterLemmas.{filter_more, filter_less}, loops.those_in.Goals.{then-contains+in_ok-push, else-contains}}
use Rattle.fb_types.proofs.loops.those_in.Goals as goal

pub loop-name-preserved : goal.loop-name-preserved
loop-name-preserved c =
    let names = c.args.names.now in
    let i = c.loop-name.name-index in
    let x = c.name-item.result in
    let inside = has_name c.args.set.now.keys in
    let more : take (i + 1) names ≡ take i names ++ x ∷ [] = grind (arith, common_steps) in
    elim c.if-contains.branch [
      | then-contains+in_ok-push w ↦
          let kept = ap (filter inside) more ∙ filter_more inside (take i names) x (sym c.contains.ensures ∙ w.if-contains.true) in
          rw (kept, w.found-is, w.in_ok-push.ensures.items) (ap (λ l. l ++ x ∷ []) c.loop-name.invariant)
      | else-contains w ↦
          let kept = ap (filter inside) more ∙ filter_less inside (take i names) x (sym c.contains.ensures ∙ w.if-contains.false) in
          rw (kept, w.found-is) c.loop-name.invariant
    ]
