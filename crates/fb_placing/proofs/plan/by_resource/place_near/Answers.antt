-- The name stands where one was found before.
use Rattle.std.proofs.{Common.{◌≡◌, length, refl, sym, ◌∙◌, ap, Some, List, ℕ}, lemmas.Bool.{ltb-true}, lemmas.Option.{slice_get_read}}
use Rattle.std.specs.Prelude.{slice_get}
use Rattle.fb_placing.proofs.TableLemmas.{same_text}
use Rattle.fb_placing.proofs.plan.by_resource.place_near.Goals as goal

pub returns-then-eq-clause-found : goal.returns-then-eq-clause-found
returns-then-eq-clause-found c =
    let names = c.args.names.now in
    let x = c.in-Some.there.now in
    let same : x ≡ c.args.name.now = sym c.as_str.ensures ∙ same_text c.as_str.result.now c.as_str-in-Some.result.now (sym c.eq.ensures ∙ c.if-eq.true) ∙ c.as_str-in-Some.ensures in
    let found = c.in-Some.ensures.lookup in
    let there : slice_get names c.args.last ≡ Some x = slice_get_read names (length names) c.args.last x refl (ltb-true c.args.last (length names) (sym found.0)) found.1 in
    c.requires c.args.name.now (there ∙ ap (λ (n : List ℕ). Some n) same)
