-- The net that is known is the system's.
use Rattle.std.proofs.Common.{sym, ap, ◌∙◌}
use Rattle.std.specs.{Prelude.{option_copied}, Option.{option_map}}
use Rattle.fb_deploy.specs.Flatten.Net.{plain_net}
use Rattle.fb_jobs.proofs.CachedLemmas.{own_right}
use Rattle.fb_jobs.proofs.jobs.computed.plan_work.Goals as goal

pub plan_value-requires-clause-net : goal.plan_value-requires-clause-net
plan_value-requires-clause-net g c =
    own_right (g.V.View.sources c.args.view.now) c.args.system c.args.own.now _ c.requires.own
    (sym c.own_net_in.ensures ∙ ap (λ o. option_map plain_net (option_copied o)) c.in-Some.is)

pub returns : goal.returns
returns g c = record {
  value_is = c.in_ok-plan_value-2.ensures;
  none = λ e. cc;
  found_are = c.in_ok-found_nets.ensures (g.V.View.sources c.args.view.now) c.args.system c.in_ok-net.ensures.inner;
}
