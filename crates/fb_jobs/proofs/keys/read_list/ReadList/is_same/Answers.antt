-- The same was read where the texts are the same and the names without one.
use Rattle.std.proofs.{Common.{◌≡◌, map, sym, ap, ◌∙◌}, lemmas.Bool.{false≢true}}
use Rattle.fb_jobs.specs.Texts.{text_of, seen_in}
use Rattle.fb_jobs.proofs.TextLemmas.{same_texts, same_names}
use Rattle.fb_jobs.proofs.keys.read_list.ReadList.is_same.Goals as goal

pub returns-then-are_same_texts : goal.returns-then-are_same_texts
returns-then-are_same_texts c =
    let versions = c.self.inside.versions.items in
    let others = c.other.inside.versions.items in
    let texts : map text_of versions ≡ map text_of others =
    sym (ap (map text_of) c.deref.ensures.value) ∙ c.are_same_texts.ensures.0 c.if-are_same_texts.true ∙ ap (map text_of) c.deref-2.ensures.value in
    let value = c.deref-then-are_same_texts.ensures.value in
    let other_value = c.deref-then-are_same_texts-2.ensures.value in (
      (λ same. sym c.self.view_is ∙ (λ k. seen_in (texts k) ((sym value ∙ c.are_equal.ensures.0 same ∙ other_value) k)) ∙ c.other.view_is),
      (λ same. c.are_equal.ensures.1 (value
          ∙ same_names (map text_of versions) (map text_of others) c.self.inside.absent.items c.other.inside.absent.items c.self.invariant c.other.invariant (c.self.view_is ∙ same ∙ sym c.other.view_is)
          ∙ sym other_value)),
    )

pub returns-else-are_same_texts : goal.returns-else-are_same_texts
returns-else-are_same_texts c =
    let versions = c.self.inside.versions.items in
    let others = c.other.inside.versions.items in (
      (λ same. absurd (false≢true (sym c.if-are_same_texts.false ∙ same))),
      (λ same. c.are_same_texts.ensures.1 (ap (map text_of) c.deref.ensures.value
          ∙ same_texts (map text_of versions) (map text_of others) c.self.inside.absent.items c.other.inside.absent.items c.self.invariant c.other.invariant (c.self.view_is ∙ same ∙ sym c.other.view_is)
          ∙ sym (ap (map text_of) c.deref-2.ensures.value))),
    )
