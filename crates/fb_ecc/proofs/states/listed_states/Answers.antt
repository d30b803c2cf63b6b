use Rattle.std.proofs.{Common.{◌≡◌, ◌+◌, ◌<◌, ◌∷◌, [], ◌++◌, ◌∙◌, true, ap, sym, subst, length, map, take, nat_eq, arith}, lemmas.Grind.{common_steps}}
use Rattle.std.proofs.lemmas.List.{map-append}
use Rattle.std.specs.{Cmp.Lexicographic.{pointwise}, HashSet.{Updates}}
use Rattle.fb_tree.specs.declared.chart.State.{State}
use Rattle.fb_iface.specs.Names.{has_name}
use Rattle.fb_iface.proofs.RepeatLemmas.{noted-push}
use Rattle.fb_ecc.proofs.states.listed_states.Goals as goal

pub loop-state-preserved : goal.loop-state-preserved
loop-state-preserved c =
    let items = c.args.states.now in
    let n = c.loop-state.state-index in
    let x = c.state-item.result in
    let old = c.loop-state.listed in
    let new = c.insert.new.self in
    let within : n < length items = omega arith in
    let more : take (n + 1) items ≡ take n items ++ x ∷ [] = grind (arith, common_steps) in
    λ q. noted-push (map (λ (s : State). s.name) (take n items)) x.name old new c.loop-state.invariant (subst (λ m. Updates (pointwise nat_eq) old new m true) c.name.ensures c.in_ok-insert.ensures.updates) q
    ∙ ap (λ l. has_name l q) (sym (ap (map (λ (s : State). s.name)) more ∙ map-append (λ (s : State). s.name) (take n items) (x ∷ [])))
