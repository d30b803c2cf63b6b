-- The changed units are those of the changes.
use Rattle.std.proofs.Common.{◌≡◌, map, ap, sym, subst, ◌∙◌}
use Rattle.fb_index.specs.{Library.Texts.{unit_of}, Library.Changes.{edits_of}}
use Rattle.fb_jobs.specs.{Reads.{is_among}, Reach.{first_repeated}}
use Rattle.fb_entries.specs.Renew.{IsRenewal}
use Rattle.fb_entries.proofs.entries.Entries.found.Goals as goal

pub reindexed-requires : goal.reindexed-requires
reindexed-requires c =
    let units : c.deref.result.now ≡ map unit_of (edits_of c.args.changes.now) = c.deref.ensures.value ∙ c.in_ok-units.ensures in
    record {
      known = c.requires.known;
      once = ap first_repeated units ∙ c.requires.once;
      others = λ name apart. c.requires.others name (sym (ap (is_among name) units) ∙ apart);
    }

pub returns-clause-renewal : goal.returns-clause-renewal
returns-clause-renewal c =
    subst (λ us. IsRenewal c.args.after.now us c.args.self.now c.in_ok-renewal.renewal) (c.deref-2.ensures.value ∙ c.in_ok-units.ensures) c.in_ok-renewal.ensures
