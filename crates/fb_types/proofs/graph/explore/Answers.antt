use Rattle.std.proofs.Common.{◌≡◌, List, ℕ, ◌<◌, cond, sym, ap, subst, ◌∙◌}
use Rattle.fb_iface.proofs.{Library.SeenLemmas.{same}, Library.WalkLemmas.{has-updates, not_true, not_false}}
use Rattle.fb_types.specs.Graph.{edges_at}
use Rattle.fb_types.proofs.NameLemmas.{on_false}
use Rattle.fb_types.proofs.ExploreLemmas.{IsExplored, IsExplored-begin, IsExplored-leave, IsExplored-skip, IsExplored-enter, explored_falls}
use Rattle.fb_types.proofs.SearchLemmas.{fuel, fuel_pop}
use Rattle.fb_types.proofs.graph.explore.Goals as goal

pub loop-step-init : goal.loop-step-init
loop-step-init g c =
    IsExplored-begin (g.V.View.sources c.args.view.now) c.args.begun.now _ _ _ _ _ c.new-names.ensures.empty c.new-forth.ensures.empty c.new-back.ensures.empty c.new-steps.ensures.items c.in_ok-enter_all.ensures

pub loop-step-smaller-in_ok-push-in-Leave : goal.loop-step-smaller-in_ok-push-in-Leave
loop-step-smaller-in_ok-push-in-Leave g c = fuel_pop (g.V.View.sources c.args.view.now) c.args.begun.now c.loop-step.names.keys c.loop-step.steps.items c.pop.new.self.items c.in-Some.step c.in-Some.ensures.items

pub loop-step-preserved-in_ok-push-in-Leave : goal.loop-step-preserved-in_ok-push-in-Leave
loop-step-preserved-in_ok-push-in-Leave g c =
    IsExplored-leave (g.V.View.sources c.args.view.now) c.args.begun.now _ _ _ c.loop-step.steps.items c.pop.new.self.items c.in-Some.step c.in-Leave.name c.in-Some.ensures.items c.loop-step.invariant c.in-Leave.is

pub loop-step-smaller-then-not-branch : goal.loop-step-smaller-then-not-branch
loop-step-smaller-then-not-branch g c =
    let sources = g.V.View.sources c.args.view.now in
    let still : c.insert.new.self.keys ≡ c.loop-step.names.keys = on_false {P = c.insert.new.self.keys ≡ c.loop-step.names.keys} _ c.if-not-branch.true c.in_ok-insert-in-Enter.ensures.unchanged in
    subst (λ (l : List (List ℕ)). fuel sources c.args.begun.now l c.pop.new.self.items < fuel sources c.args.begun.now c.loop-step.names.keys c.loop-step.steps.items) (sym still)
    (fuel_pop sources c.args.begun.now c.loop-step.names.keys c.loop-step.steps.items c.pop.new.self.items c.in-Some.step c.in-Some.ensures.items)

pub loop-step-preserved-then-not-branch : goal.loop-step-preserved-then-not-branch
loop-step-preserved-then-not-branch g c =
    let sources = g.V.View.sources c.args.view.now in
    let still : c.insert.new.self.keys ≡ c.loop-step.names.keys = on_false {P = c.insert.new.self.keys ≡ c.loop-step.names.keys} _ c.if-not-branch.true c.in_ok-insert-in-Enter.ensures.unchanged in
    subst (λ (l : List (List ℕ)). IsExplored sources c.args.begun.now l c.loop-step.forth c.loop-step.back c.pop.new.self.items) (sym still)
    (IsExplored-skip sources c.args.begun.now _ _ _ c.loop-step.steps.items c.pop.new.self.items c.in-Some.step c.in-Enter.name c.in-Some.ensures.items c.loop-step.invariant c.in-Enter.is
    (not_false _ _ c.in_ok-insert-in-Enter.ensures.added c.if-not-branch.true))

pub loop-step-smaller : goal.loop-step-smaller
loop-step-smaller g c =
    explored_falls (g.V.View.sources c.args.view.now) c.args.begun.now c.loop-step.names.keys c.loop-step.forth c.loop-step.back c.loop-step.steps.items c.pop.new.self.items c.in-Some.step c.in-Enter.name c.in-Some.ensures.items c.loop-step.invariant c.in-Enter.is
    (not_true _ _ c.in_ok-insert-in-Enter.ensures.added c.if-not-branch.false)
    c.insert.new.self.keys c.part_mentions-mentioned.result.now c.set_edges.new.edges c.add_edges.new.edges c.push-in-Enter.new.self.items c.enter_all-in-Enter.new.steps.items
    (has-updates c.loop-step.names c.insert.new.self c.in-Enter.name c.in_ok-insert-in-Enter.ensures.updates)
    c.part_mentions-mentioned.ensures
    c.in_ok-push-in-Enter.ensures.items c.in_ok-enter_all-in-Enter.ensures

pub loop-step-preserved : goal.loop-step-preserved
loop-step-preserved g c =
    IsExplored-enter (g.V.View.sources c.args.view.now) c.args.begun.now c.loop-step.names.keys c.loop-step.forth c.loop-step.back c.loop-step.steps.items c.pop.new.self.items c.in-Some.step c.in-Enter.name c.in-Some.ensures.items c.loop-step.invariant c.in-Enter.is
    (not_true _ _ c.in_ok-insert-in-Enter.ensures.added c.if-not-branch.false)
    c.insert.new.self.keys c.part_mentions-mentioned.result.now c.set_edges.new.edges c.add_edges.new.edges c.push-in-Enter.new.self.items c.enter_all-in-Enter.new.steps.items
    (has-updates c.loop-step.names c.insert.new.self c.in-Enter.name c.in_ok-insert-in-Enter.ensures.updates)
    c.part_mentions-mentioned.ensures
    c.in_ok-push-in-Enter.ensures.items
    c.in_ok-enter_all-in-Enter.ensures
    (λ u. c.in_ok-set_edges-in-Enter.ensures u ∙ ap (λ (l : List (List ℕ)). cond (same c.in-Enter.name u) l (edges_at c.loop-step.forth u)) (c.in_ok-edges-in-Enter.ensures.items_if_clones_equal (λ x y e. e)))
    c.in_ok-add_edges-in-Enter.ensures
