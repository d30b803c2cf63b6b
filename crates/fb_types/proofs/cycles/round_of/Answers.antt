use Rattle.std.proofs.lemmas.Result.{IfOk-weaker}
use Rattle.fb_types.proofs.GraphLemmas.{listed_round}
use Rattle.fb_types.proofs.cycles.round_of.Goals as goal

pub returns : goal.returns
returns c =
    IfOk-weaker c.names_of.result _ _
    (λ round is v. listed_round c.args.forth.now c.args.back.now c.requires.reverse c.args.name.now c.args.undecided.now c.requires.whole c.in_ok-behind.behind c.in_ok-behind.ensures c.in_ok-round.round.keys c.in_ok-round.ensures round.items is v)
    c.names_of.ensures.items
