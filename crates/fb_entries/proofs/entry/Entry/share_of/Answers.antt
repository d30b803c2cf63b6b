-- The entry's key is shared where it is the same.
use Rattle.std.proofs.Common.{◌∙◌, sym}
use Rattle.fb_jobs.proofs.Order.{keys_equal}
use Rattle.fb_entries.proofs.entry.Entry.share_of.Goals as goal

pub returns-then-eq : goal.returns-then-eq
returns-then-eq c = c.in_ok-shared.ensures.cases ∙ sym c.deref.ensures ∙ keys_equal c.deref.result.now c.args.key (sym c.eq.ensures ∙ c.if-eq.true)
