use Rattle.std.proofs.{Common.{◌≡◌, List, ℕ, ◌∷◌, [], ◌++◌, sym, subst, arith}, lemmas.List.{nil_from_length}}
use Rattle.fb_iface.specs.Library.Seen.{Opens, has_name}
use Rattle.fb_iface.proofs.Library.WalkLemmas.{one_pushed}
use Rattle.fb_types.specs.Graph.{edges_within}
use Rattle.fb_types.proofs.{FilterLemmas.{of_filter}, GraphLemmas.{edges-none, edges-some}}
use Rattle.fb_types.proofs.ReachLemmas.{IsWalk, IsWalk-begin, IsWalk-step, IsWalk-end, walk_at_end, walk_falls}
use Rattle.fb_types.proofs.cycles.walk.Goals as goal

pub loop-name-init : goal.loop-name-init
loop-name-init c =
    IsWalk-begin (edges_within c.args.edges.now c.args.within.now) c.args.from.now c.new-seen.result.keys c.push.new.self.items c.new-seen.ensures.empty
    (one_pushed c.new-pending.result.items c.push.new.self.items c.args.from.now c.new-pending.ensures.items c.in_ok-push.ensures.items)

pub loop-name-preserved-in_default-get : goal.loop-name-preserved-in_default-get
loop-name-preserved-in_default-get c =
    let next = edges_within c.args.edges.now c.args.within.now in
    let name = c.in-Some.name in
    let before : IsWalk next c.args.from.now c.loop-name.seen.keys (c.pop.new.self.items ++ name ∷ []) = subst (IsWalk next c.args.from.now c.loop-name.seen.keys) c.in-Some.ensures.items c.loop-name.invariant in
    IsWalk-end next c.args.from.now _ _ [] [] name before (edges-none c.args.edges.now c.args.within.now name (sym c.in_default-get.ensures.value))

pub loop-name-preserved : goal.loop-name-preserved
loop-name-preserved c =
    let next = edges_within c.args.edges.now c.args.within.now in
    let name = c.in-Some.name in
    let before : IsWalk next c.args.from.now c.loop-name.seen.keys (c.pop.new.self.items ++ name ∷ []) = subst (IsWalk next c.args.from.now c.loop-name.seen.keys) c.in-Some.ensures.items c.loop-name.invariant in
    let leads : next name ≡ _ = edges-some c.args.edges.now c.args.within.now name c.in-Some-get.next.now c.as_slice.result.now (sym c.in-Some-get.ensures.value) c.as_slice.ensures.value in
    let opens : Opens (next name) c.loop-name.seen.keys c.pop.new.self.items c.open_new.new.seen.keys c.open_new.new.pending.items = subst (λ (ns : List (List ℕ)). Opens ns c.loop-name.seen.keys c.pop.new.self.items c.open_new.new.seen.keys c.open_new.new.pending.items) (sym leads) c.in_ok-open_new.ensures in
    IsWalk-step next c.args.from.now _ _ _ _ name before opens

pub loop-name-smaller : goal.loop-name-smaller
loop-name-smaller c =
    walk_falls _ c.args.within.now.keys _ _ _ _ c.loop-name.pending.items c.in-Some.name c.in_ok-open_new.ensures
    (λ q h. (of_filter (has_name c.args.within.now.keys) c.as_slice.result.now q h).1)
    c.in-Some.ensures.items

pub returns : goal.returns
returns c =
    let next = edges_within c.args.edges.now c.args.within.now in
    let empty : c.loop-name.pending.items ≡ [] = nil_from_length c.loop-name.pending.items (omega (arith, c.in_default.ensures.cases, c.loop-name.pending.ok.0)) in
    let walk : IsWalk next c.args.from.now c.loop-name.seen.keys [] = subst (IsWalk next c.args.from.now c.loop-name.seen.keys) empty c.loop-name.invariant in
    walk_at_end next c.args.from.now c.loop-name.seen.keys walk
