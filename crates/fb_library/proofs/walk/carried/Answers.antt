use Rattle.std.proofs.{Common.{◌≡◌, ◌+◌, [], ◌∷◌, ◌++◌, take, ◌∙◌, arith}, lemmas.Grind.{common_steps}, lemmas.Result.{IfOk-weaker}}
use Rattle.std.proofs.lemmas.List.{nil_from_length}
use Rattle.std.specs.List.{flat_map}
use Rattle.fb_library.specs.{Near.{carried_on, in_all_trees}, View.{values_at, values_in}}
use Rattle.fb_library.proofs.{CarriedLemmas.{carried_within, carried_at_end}, WalkLemmas.{IsWalk-begin, IsWalk-step, opens_falls, opens_more}}
use Rattle.fb_library.proofs.walk.carried.Goals as goal

pub loop-unit-preserved : goal.loop-unit-preserved
loop-unit-preserved g c =
    let units = c.args.units.now in
    let i = c.loop-unit.unit-index in
    let x = c.unit-item.result in
    let more : take (i + 1) units ≡ take i units ++ x ∷ [] = grind (arith, common_steps) in
    opens_more (values_at (g.V.View.sources c.args.view.now)) (take i units) (take (i + 1) units) x _ _ _ _ more c.loop-unit.invariant (rw c.value_mentions.ensures at c.in_ok-open_new.ensures)

pub loop-name-init : goal.loop-name-init
loop-name-init g c =
    let units = c.args.units.now in
    let sources = g.V.View.sources c.args.view.now in
    let all : take c.loop-unit.unit-index units ≡ units = grind (arith, common_steps) in
    IsWalk-begin (carried_on sources) (flat_map (values_at sources) units) _ _ (rw all at c.loop-unit.invariant)

pub loop-name-preserved : goal.loop-name-preserved
loop-name-preserved g c =
    let sources = g.V.View.sources c.args.view.now in
    IsWalk-step (carried_on sources) (flat_map (values_at sources) c.args.units.now) _ _ _ _ c.in-Some.name
    (rw c.in-Some.ensures.items at c.loop-name.invariant) (rw c.carried_on.ensures at c.in_ok-open_new-2.ensures)

pub loop-name-smaller : goal.loop-name-smaller
loop-name-smaller g c =
    let sources = g.V.View.sources c.args.view.now in
    opens_falls (carried_on sources) (in_all_trees values_in sources) (carried_within sources) c.in-Some.name _ _ _ _ c.loop-name.pending.items
    (rw c.carried_on.ensures at c.in_ok-open_new-2.ensures) c.in-Some.ensures.items

pub returns : goal.returns
returns g c =
    let sources = g.V.View.sources c.args.view.now in
    let empty : c.loop-name.pending.items ≡ [] = nil_from_length c.loop-name.pending.items (omega (arith, c.in_default.ensures.cases, c.loop-name.pending.ok.0)) in
    let is = carried_at_end sources c.args.units.now c.loop-name.seen.keys c.names_of.ensures.ordered (rw empty at c.loop-name.invariant) in
    IfOk-weaker c.names_of.result _ _ (λ names same. same ∙ is) c.names_of.ensures.items
