use Rattle.std.proofs.{Common.{◌≡◌, ◌+◌, ℕ, List, ◌∷◌, [], ◌++◌, arith, take, sym, subst, ◌∙◌}, lemmas.Grind.{common_steps}}
use Rattle.std.specs.List.{Contains}
use Rattle.fb_types.specs.Graph.{edges_at, Follows}
use Rattle.fb_types.proofs.DecidedLemmas.{IsDecided-step, AreDecided-step, AreDecided-skip}
use Rattle.fb_types.proofs.cycles.decide_all.Goals.{then-contains+in_ok-round+in_ok-settle, else-contains}
use Rattle.fb_types.proofs.cycles.decide_all.Goals as goal

pub loop-name-preserved : goal.loop-name-preserved
loop-name-preserved c =
    let next = edges_at c.args.forth.now in
    let names = c.args.names.now in
    let i = c.loop-name.name-index in
    let x = c.name-item.result in
    let more : take (i + 1) names ≡ take i names ++ x ∷ [] = grind (arith, common_steps) in
    elim c.if-contains.branch [
      | then-contains+in_ok-round+in_ok-settle w ↦
          let round = w.as_slice.result.now in
          let left = w.in_ok-settle.ensures.undecided in
          let is_round = λ (v : List ℕ). subst (λ (l : List (List ℕ)). (Contains l v → Follows next x v × Follows next v x) × (Follows next x v × Follows next v x → Contains l v)) (sym w.as_slice.ensures.value) (w.in_ok-round.ensures v) in
          rw (more, w.undecided-is, w.found-is) (record {
            decided = IsDecided-step next c.loop-name.undecided.keys c.loop-name.found.keys w.settle.new.undecided.keys w.settle.new.found.keys round x left c.loop-name.invariant.decided is_round w.in_ok-settle.ensures.found;
            these = AreDecided-step next c.loop-name.undecided.keys c.loop-name.found.keys w.settle.new.undecided.keys w.settle.new.found.keys round x left (take i names) c.args.undecided.now.keys c.loop-name.invariant.these;
          })
      | else-contains w ↦
          rw (more, w.undecided-is, w.found-is) (record {
            decided = c.loop-name.invariant.decided;
            these = AreDecided-skip (take i names) c.args.undecided.now.keys c.loop-name.undecided.keys x (sym c.contains.ensures ∙ w.if-contains.false) c.loop-name.invariant.these;
          })
    ]
