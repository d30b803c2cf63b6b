use Rattle.std.proofs.{Common.{◌≡◌, ◌+◌, ◌∷◌, [], ◌++◌, true, false, arith, take, filter, sym, ap, ◌∙◌}, lemmas.Grind.{common_steps}}
use Rattle.fb_iface.specs.Library.Seen.{has_name}
use Rattle.fb_iface.proofs.Library.WalkLemmas.{Opens-none, Opens-new, Opens-old, has-updates, not_true, not_false}
use Rattle.fb_types.proofs.FilterLemmas.{filter_more, filter_less}
use Rattle.fb_types.proofs.cycles.open_new.Goals.{then-contains+in_ok-insert+then-branch+in_ok-push, else-contains, else-contains-via-then-contains+in_ok-insert+else-branch, else-contains-via-else-contains}
use Rattle.fb_types.proofs.cycles.open_new.Goals as goal

pub loop-name-init : goal.loop-name-init
loop-name-init c = Opens-none _ _

pub loop-name-preserved : goal.loop-name-preserved
loop-name-preserved c =
    let names = c.args.names.now in
    let i = c.loop-name.name-index in
    let x = c.name-item.result in
    let inside = has_name c.args.within.now.keys in
    let more : take (i + 1) names ≡ take i names ++ x ∷ [] = grind (arith, common_steps) in
    elim c.if-contains.branch [
      | then-contains+in_ok-insert+then-branch+in_ok-push w ↦
          let kept : filter inside (take (i + 1) names) ≡ filter inside (take i names) ++ x ∷ [] = ap (filter inside) more ∙ filter_more inside (take i names) x (sym c.contains.ensures ∙ w.if-contains.true) in
          let adds = has-updates c.loop-name.seen w.insert.new.self x w.in_ok-insert.ensures.updates in
          let new : has_name c.loop-name.seen.keys x ≡ false = not_true _ _ w.in_ok-insert.ensures.added w.if-branch.true in
          rw (kept, w.seen-is, w.pending-is, w.in_ok-push.ensures.items) (Opens-new _ _ _ _ _ _ x c.loop-name.invariant adds new)
      | else-contains w ↦
          elim w.else-contains.branch [
            | else-contains-via-then-contains+in_ok-insert+else-branch w' ↦
                let kept : filter inside (take (i + 1) names) ≡ filter inside (take i names) ++ x ∷ [] = ap (filter inside) more ∙ filter_more inside (take i names) x (sym c.contains.ensures ∙ w'.if-contains.true) in
                let adds = has-updates c.loop-name.seen w'.insert.new.self x w'.in_ok-insert.ensures.updates in
                let old : has_name c.loop-name.seen.keys x ≡ true = not_false _ _ w'.in_ok-insert.ensures.added w'.if-branch.false in
                rw (kept, w.seen-is, w'.seen-is, w.pending-is) (Opens-old _ _ _ _ _ _ x c.loop-name.invariant adds old)
            | else-contains-via-else-contains w' ↦
                let kept : filter inside (take (i + 1) names) ≡ filter inside (take i names) = ap (filter inside) more ∙ filter_less inside (take i names) x (sym c.contains.ensures ∙ w'.if-contains.false) in
                rw (kept, w.seen-is, w'.seen-is, w.pending-is) c.loop-name.invariant
          ]
    ]
