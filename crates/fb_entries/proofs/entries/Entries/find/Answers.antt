-- What is found, list by list.
use Rattle.std.proofs.Common.{filter, not, is_none, refl, ap, subst, ◌∙◌}
use Rattle.fb_jobs.specs.{Keys.{has_key}, Kinds.{keys_near_and_far}}
use Rattle.fb_entries.specs.{Keyed.{Keyed, can_take, entry_in}, Renew.{IsRenewal}, declared.renewal.Renewal.{Renewal}}
use Rattle.fb_entries.proofs.{Findings.{found}, Reached.{keys_are}}
use Rattle.fb_entries.proofs.entries.Entries.find.Goals as goal

pub returns : goal.returns
returns c =
    let U = c.args.library.now in
    let own = c.in_ok-own.own.items in
    let near = c.in_ok-near.near.items in
    let far = c.in_ok-far.far.items in
    let old : Keyed = record { entries = c.self.inside.by_key; ready = c.self.inside.ready.keys } in
    let it : Renewal = record { fresh = c.in_ok-fresh.fresh; gone = c.in_ok-present.gone; renewed = c.in_ok-renewed.renewed; unready = c.in_ok-unready.unready } in
    subst (λ (was : Keyed). IsRenewal U c.args.units.now was it) c.self.view_is
    (found U c.args.index.now c.args.units.now old it own c.in_ok-present.present.items (keys_near_and_far near far)
    c.requires.indexed
    c.in_ok-own.ensures
    (c.in_ok-present.ensures.present ∙ ap (filter (has_key U)) c.deref.ensures.value)
    (c.in_ok-fresh.ensures ∙ (λ i. filter (λ k. is_none (entry_in (c.entries.ensures i) k)) (c.deref-2.ensures.value i)))
    (c.in_ok-present.ensures.absent ∙ ap (filter (λ k. not (has_key U k))) c.deref.ensures.value)
    (keys_are near far c.args.index.now c.args.units.now c.in_ok-near.ensures.exact c.in_ok-far.ensures.exact (keys_near_and_far near far) refl)
    (c.in_ok-renewed.ensures ∙ (λ i. filter (has_key U) (keys_near_and_far (c.deref-3.ensures.value i) (c.deref-4.ensures.value i))))
    (c.in_ok-unready.ensures ∙ ap (filter (λ k. not (can_take old k))) c.deref-5.ensures.value))
