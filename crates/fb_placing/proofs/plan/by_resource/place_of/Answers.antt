-- Place by place.
use Rattle.std.proofs.{Common.{◌≡◌, length, refl, sym, ◌∙◌, ap, Some, List, ℕ, arith}, lemmas.Option.{slice_get_read, slice_get_within}}
use Rattle.std.specs.Str.{bytes_eq}
use Rattle.fb_placing.proofs.{ListedLemmas.{passed_place}, TableLemmas.{same_text}}
use Rattle.fb_placing.proofs.plan.by_resource.place_of.Goals as goal

pub returns-then-eq-clause-found : goal.returns-then-eq-clause-found
returns-then-eq-clause-found c =
    let names = c.args.names.now in
    let x = c.index-names-place.result in
    let same : x ≡ c.args.name.now = sym c.as_str.ensures ∙ same_text c.as_str.result.now c.as_str-in-loop-place.result.now (sym c.eq.ensures ∙ c.if-eq.true) ∙ c.as_str-in-loop-place.ensures in
    (slice_get_read names (length names) c.loop-place.place x refl c.loop-place-test.true c.index-names-place.is ∙ ap (λ (n : List ℕ). Some n) same, c.loop-place.invariant)

pub loop-place-preserved : goal.loop-place-preserved
loop-place-preserved c =
    passed_place c.args.names.now c.loop-place.place c.index-names-place.result c.args.name.now c.loop-place-test.true c.index-names-place.is
    ((λ i. bytes_eq (sym c.as_str.ensures i) (sym c.as_str-in-loop-place.ensures i)) ∙ sym c.eq.ensures ∙ c.if-eq.false)
    c.loop-place.invariant

pub returns-clause-none : goal.returns-clause-none
returns-clause-none c = λ k there.
    c.loop-place.invariant k (let within = slice_get_within c.args.names.now k c.args.name.now there in omega (arith, within, c.loop-place-test.false)) there
