-- A unit has a net or a plan by its own text.
use Rattle.std.proofs.Common.{ap, sym, ◌∙◌}
use Rattle.fb_deploy.specs.Library.Texts.{text_at}
use Rattle.fb_jobs.specs.{Keys.{has_key, has_kind_at}, declared.keys.key.Kind.{Kind}}
use Rattle.fb_jobs.proofs.keys.read.has_key.Goals as goal

pub returns-in-Net : goal.returns-in-Net
unfolding has_key
returns-in-Net c = c.has_net_and_plan.ensures.net ∙ sym (ap (λ (k : Kind). has_kind_at k (text_at c.args.library.now c.args.key.unit)) c.in-Net.is)

pub returns-in-Deploy : goal.returns-in-Deploy
unfolding has_key
returns-in-Deploy c = c.has_net_and_plan-in-Deploy.ensures.plan ∙ sym (ap (λ (k : Kind). has_kind_at k (text_at c.args.library.now c.args.key.unit)) c.in-Deploy.is)
