use Rattle.std.proofs.Common.{ℕ, List, ◌∙◌, ap}
use Rattle.fb_network.specs.Places.{dotted}
use Rattle.fb_placing.proofs.NameLemmas.{path_next}
use Rattle.fb_placing.proofs.homes.mappings.path_of_names.Goals as goal

pub loop-name-preserved : goal.loop-name-preserved
loop-name-preserved c =
    let x = c.name-item.result in
    c.in_ok-path-2.ensures ∙ ap (λ (n : List ℕ). dotted c.loop-name.path n) c.name-in-loop-name.ensures ∙ ap (λ p. dotted p x.name) c.loop-name.invariant
    ∙ path_next c.args.first.now c.args.others.now c.loop-name.name-index x c.loop-name-test.true c.name-item.is
