-- A text that replaces another takes its place.
use Rattle.std.proofs.Common.{length, ap, sym, ◌∙◌}
use Rattle.fb_jobs.proofs.ReplacedLemmas.{replaced_count}
use Rattle.fb_jobs.proofs.keys.texts.TextReads.len.Goals as goal

pub returns : goal.returns
returns c =
    c.len.ensures ∙ ap length c.deref.ensures ∙ sym (replaced_count c.self.inside.list.value c.self.inside.replacements.items) ∙ ap length c.self.view_is
