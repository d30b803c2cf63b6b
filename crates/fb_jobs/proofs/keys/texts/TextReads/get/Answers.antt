-- Where there was no read, no text replaces one.
use Rattle.std.proofs.Common.{slice_get, ap, sym, ◌∙◌}
use Rattle.fb_jobs.proofs.ReplacedLemmas.{replaced_past}
use Rattle.fb_jobs.proofs.keys.texts.TextReads.get.Goals as goal

pub returns-in-None : goal.returns-in-None
returns-in-None c =
    let place = c.args.place in
    sym (replaced_past c.self.inside.list.value c.self.inside.replacements.items place (sym (c.in-None.ensures ∙ ap (λ l. slice_get l place) c.deref.ensures)))
    ∙ ap (λ l. slice_get l place) c.self.view_is
