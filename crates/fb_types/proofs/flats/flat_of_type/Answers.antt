-- What is composed is that of the network in the table.
use Rattle.std.proofs.{Common.{ap, sym, ◌∙◌}, lemmas.Result.{IfOk-weaker}}
use Rattle.std.specs.Option.{option_copied}
use Rattle.fb_types.proofs.flats.flat_of_type.Goals as goal

pub returns : goal.returns
returns g c =
    let there = sym c.get.ensures.value ∙ ap option_copied c.unwrap-network.ensures in
    IfOk-weaker c.compose_by_part.result _ _ (λ flat whole. record { network = c.unwrap-network.result.now; there = there; whole = whole }) c.compose_by_part.ensures
