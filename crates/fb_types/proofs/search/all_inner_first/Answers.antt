use Rattle.std.proofs.{Common.{◌≡◌, ℕ, List, [], refl, sym, subst, ◌∙◌, arith}, lemmas.Bool.{false≢true}, lemmas.List.{nil_from_length}}
use Rattle.fb_iface.proofs.Library.WalkLemmas.{has-updates, not_true, not_false}
use Rattle.fb_types.specs.declared.search.Step.{Step}
use Rattle.fb_types.proofs.SearchLemmas.{IsSearch, IsSearch-begin, fuel_pop, skipped, left_last, found_loop, entered_next, entered_falls, whole_at_end, none_at_end}
use Rattle.fb_types.proofs.search.all_inner_first.Goals as goal

pub loop-step-init : goal.loop-step-init
loop-step-init g c =
    IsSearch-begin (g.V.View.sources c.args.view.now) c.args.names.now _ _ _ _ _ c.new-entered.ensures.empty c.new-left.ensures.empty c.new-order.ensures.items c.new-steps.ensures.items c.in_ok-enter_all.ensures

pub loop-step-preserved-then-contains : goal.loop-step-preserved-then-contains
loop-step-preserved-then-contains g c =
    skipped (g.V.View.sources c.args.view.now) c.args.names.now _ _ _ c.loop-step.steps.items c.pop.new.self.items c.in-Some.step c.in-Enter.name c.in-Some.ensures.items c.loop-step.invariant c.in-Enter.is
    (sym c.contains.ensures ∙ c.if-contains.true)

pub loop-step-smaller-then-contains : goal.loop-step-smaller-then-contains
loop-step-smaller-then-contains g c = fuel_pop (g.V.View.sources c.args.view.now) c.args.names.now c.loop-step.entered.keys c.loop-step.steps.items c.pop.new.self.items c.in-Some.step c.in-Some.ensures.items

pub loop-step-preserved-in_ok-push-in-Leave : goal.loop-step-preserved-in_ok-push-in-Leave
loop-step-preserved-in_ok-push-in-Leave g c =
    let sources = g.V.View.sources c.args.view.now in
    let left' = c.insert.new.self.keys in
    subst (λ (x : List (List ℕ)). IsSearch sources c.args.names.now c.loop-step.entered.keys left' x c.pop.new.self.items) (sym c.in_ok-push-in-Leave.ensures.items)
    (left_last sources c.args.names.now _ _ _ c.loop-step.steps.items c.pop.new.self.items c.in-Some.step c.in-Leave.name c.in-Some.ensures.items c.loop-step.invariant c.in-Leave.is left'
    (has-updates c.loop-step.left c.insert.new.self c.in-Leave.name c.in_ok-insert-in-Leave.ensures.updates))

pub loop-step-smaller-in_ok-push-in-Leave : goal.loop-step-smaller-in_ok-push-in-Leave
loop-step-smaller-in_ok-push-in-Leave g c = fuel_pop (g.V.View.sources c.args.view.now) c.args.names.now c.loop-step.entered.keys c.loop-step.steps.items c.pop.new.self.items c.in-Some.step c.in-Some.ensures.items

pub loop-step-preserved : goal.loop-step-preserved
loop-step-preserved g c =
    entered_next (g.V.View.sources c.args.view.now) c.args.names.now c.loop-step.entered.keys c.loop-step.left.keys c.loop-step.order.items c.loop-step.steps.items c.pop.new.self.items c.in-Some.step c.in-Enter.name c.in-Some.ensures.items c.loop-step.invariant c.in-Enter.is
    (sym c.contains.ensures ∙ c.if-contains.false)
    (not_true _ _ c.in_ok-insert-in-Enter.ensures.added c.if-not-branch.false)
    c.insert-in-Enter.new.self.keys c.part_mentions.result.now
    (has-updates c.loop-step.entered c.insert-in-Enter.new.self c.in-Enter.name c.in_ok-insert-in-Enter.ensures.updates)
    c.part_mentions.ensures
    c.push-in-Enter.new.self.items c.enter_all-in-Enter.new.steps.items c.in_ok-push-in-Enter.ensures.items c.in_ok-enter_all-in-Enter.ensures

pub loop-step-smaller : goal.loop-step-smaller
loop-step-smaller g c =
    entered_falls (g.V.View.sources c.args.view.now) c.args.names.now c.loop-step.entered.keys c.loop-step.left.keys c.loop-step.order.items c.loop-step.steps.items c.pop.new.self.items c.in-Some.step c.in-Enter.name c.in-Some.ensures.items c.loop-step.invariant c.in-Enter.is
    (sym c.contains.ensures ∙ c.if-contains.false)
    (not_true _ _ c.in_ok-insert-in-Enter.ensures.added c.if-not-branch.false)
    c.insert-in-Enter.new.self.keys c.part_mentions.result.now
    (has-updates c.loop-step.entered c.insert-in-Enter.new.self c.in-Enter.name c.in_ok-insert-in-Enter.ensures.updates)
    c.part_mentions.ensures
    c.push-in-Enter.new.self.items c.enter_all-in-Enter.new.steps.items c.in_ok-push-in-Enter.ensures.items c.in_ok-enter_all-in-Enter.ensures

pub returns-then-not-branch-clause-recursive : goal.returns-then-not-branch-clause-recursive
returns-then-not-branch-clause-recursive g c = (
  λ none. found_loop (g.V.View.sources c.args.view.now) c.args.names.now c.loop-step.entered.keys c.loop-step.left.keys c.loop-step.order.items c.loop-step.steps.items c.pop.new.self.items c.in-Some.step c.in-Enter.name c.in-Some.ensures.items c.loop-step.invariant c.in-Enter.is
      (sym c.contains.ensures ∙ c.if-contains.false)
      (not_false _ _ c.in_ok-insert-in-Enter.ensures.added c.if-not-branch.true),
  λ loop. refl,
)

pub returns-clause-whole : goal.returns-clause-whole
returns-clause-whole g c =
    let sources = g.V.View.sources c.args.view.now in
    let empty : c.loop-step.steps.items ≡ [] = nil_from_length c.loop-step.steps.items (omega (arith, c.in_default.ensures.cases, c.loop-step.steps.ok.0)) in
    let search = subst (λ (x : List Step). IsSearch sources c.args.names.now c.loop-step.entered.keys c.loop-step.left.keys c.loop-step.order.items x) empty c.loop-step.invariant in
    λ v. whole_at_end sources c.args.names.now _ _ _ search v

pub returns-clause-recursive : goal.returns-clause-recursive
returns-clause-recursive g c =
    let sources = g.V.View.sources c.args.view.now in
    let empty : c.loop-step.steps.items ≡ [] = nil_from_length c.loop-step.steps.items (omega (arith, c.in_default.ensures.cases, c.loop-step.steps.ok.0)) in
    let search = subst (λ (x : List Step). IsSearch sources c.args.names.now c.loop-step.entered.keys c.loop-step.left.keys c.loop-step.order.items x) empty c.loop-step.invariant in
    (λ none. absurd (false≢true (sym none)), λ loop. absurd (none_at_end sources c.args.names.now _ _ _ search loop))
