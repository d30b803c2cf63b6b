-- The kept number is the caller's of all time.
use Rattle.std.proofs.Common.{◌∙◌, ap, unwrap_or}
use Rattle.fb_history.specs.{Records.{records_in}, BenchView.{all_turns, on_page}}
use Rattle.fb_history.proofs.Pages.{on_all}
use Rattle.fb_history.proofs.log.History.turns_of.Goals as goal

pub returns : goal.returns
returns c =
    c.unwrap_or.ensures ∙ ap (λ o. unwrap_or o 0) (c.copied.ensures ∙ c.get.ensures.value)
    ∙ ap (λ es. on_page es c.args.caller) c.self.invariant.pages_are
    ∙ on_all c.self.inside.start.pages (records_in c.self.inside.records.items) c.args.caller
    ∙ ap (λ st. all_turns st c.args.caller) c.self.view_is
