-- A refused call changes nothing, and `Behind` is only answered if the seat did not fit.
use Rattle.std.proofs.Common.{◌∙◌, rules, Err, ap, subst}
use Rattle.fb_shared.specs.UnderLock.{IsBehind}
use Rattle.fb_shared.proofs.Refusals.{behind_named}
use Rattle.fb_host.proofs.session_desk.SessionDeskDesk.perform.Goals as goal

pub returns-in-Err : goal.returns-in-Err
returns-in-Err g c = record {
  fits = tt;
  step = search rules;
  behind = λ is. subst IsBehind (ap (λ d. d.seated.seat) c.self-inside.view_is ∙ ap (λ s. s.seated.seat) c.self.view_is) (behind_named _ _ c.in-Err.ensures.refused is);
}
