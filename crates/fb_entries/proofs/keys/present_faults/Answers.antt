-- One unit more, which is present or not.
use Rattle.std.proofs.{Common.{◌≡◌, ◌+◌, ◌++◌, ◌∷◌, [], ap, ◌∙◌, arith, cond, sym, take}, lemmas.Grind.{common_steps}}
use Rattle.fb_jobs.specs.declared.keys.key.Kind.TheVariants as kind
use Rattle.fb_entries.proofs.Present.{present_more, the_key}
use Rattle.fb_entries.proofs.keys.present_faults.Goals as goal

pub loop-unit-preserved : goal.loop-unit-preserved
loop-unit-preserved c =
    let library = c.args.library.now in
    let units = c.args.units.now in
    let i = c.loop-unit.unit-index in
    let unit = c.unit-item.result in
    let more : take (i + 1) units ≡ take i units ++ unit ∷ [] = grind (arith, common_steps) in
    c.in_ok-add_if.ensures
    ∙ ap (λ keys. keys ++ cond c.has_key.result (the_key kind.Faults unit ∷ []) []) c.loop-unit.invariant
    ∙ sym (present_more library kind.Faults (take i units) (take (i + 1) units) unit more c.has_key.result c.has_key.ensures)
