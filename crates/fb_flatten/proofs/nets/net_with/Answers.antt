-- There is one net of the unit.
use Rattle.fb_flatten.specs.Net.{plain_net}
use Rattle.fb_flatten.proofs.ComputedNets.{has_by_text, net_at_is}
use Rattle.fb_flatten.proofs.nets.net_with.Goals as goal

pub compute-requires-clause-net : goal.compute-requires-clause-net
compute-requires-clause-net g c = (has_by_text (g.V.View.sources c.args.view.now) c.args.unit).1 c.requires.net

pub compute-requires-clause-faultless : goal.compute-requires-clause-faultless
compute-requires-clause-faultless g c = λ name e. absurd (let no : ⊥ = cc in no)

pub returns : goal.returns
returns g c = record {
  is = ((net_at_is (g.V.View.sources c.args.view.now) c.args.unit (plain_net c.in_ok-net.field-0.net)).0 c.in_ok-net.ensures.net).1;
  at = c.in_ok-net.ensures.net;
}
