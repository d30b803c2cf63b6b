-- The net is composed, and others with it.
use Rattle.std.proofs.Common.{sym, ap, ◌∙◌}
use Rattle.fb_jobs.specs.Keys.{net_finding}
use Rattle.fb_jobs.proofs.jobs.computed.net_work.Goals as goal

pub returns : goal.returns
returns g c = record {
  value_is = c.in_ok-previous_or.ensures ∙ ap net_finding (sym c.in_ok-net.ensures.net);
  none = λ e. cc;
  found_are = c.in_ok-found_nets.ensures (g.V.View.sources c.args.view.now) c.args.unit c.in_ok-net.ensures.inner;
}
