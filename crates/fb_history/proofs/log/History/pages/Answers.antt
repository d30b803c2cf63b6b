-- The kept pages.
use Rattle.std.proofs.Common.{◌∙◌, ap}
use Rattle.fb_history.specs.BenchView.{pages_after}
use Rattle.fb_history.proofs.log.History.pages.Goals as goal

pub returns : goal.returns
returns c = c.self.invariant.pages_are ∙ ap (λ st. pages_after st.origin.pages st.log.records) c.self.view_is
