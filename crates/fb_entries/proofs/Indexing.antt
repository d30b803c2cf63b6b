-- The index after a commit.
use Rattle.std.proofs.Common.{◌≡◌, ℕ, Bool, true, false, ◌||◌, List, [], ◌∷◌, ◌++◌, refl, sym, ap, subst, ◌∙◌, Option, Some, None, cond, is_some}
use Rattle.std.proofs.lemmas.Bool.{false≢true, true≢false}
use Rattle.std.specs.{BTreeMap.{is_at}, Option.{option_and_then}}
use Rattle.fb_text.proofs.Tests.{by_bool, or_cases, no_both}
use Rattle.fb_text.specs.Order.{name_cmp}
use Rattle.fb_tree.specs.Mentions.{Mentioned}
use Rattle.fb_index.specs.{Indexed.{Indexed, is_indexed, nothing_indexed, IsIndexedAs, IsRemoved, IsReplaced}, Library.Texts.{Texts, sources_of, text_at}}
use Rattle.fb_index.specs.Library.View.{tree_of, mentions_of_tree, mentioned_at}
use Rattle.fb_index.proofs.{Lookups.{flips}, Replacing.{indexed_none as nothing_known, still_indexed}}
use Rattle.fb_index.proofs.{Library.SeenLemmas.{same_is, has-push}, Library.Sources.{get_source}}
use Rattle.fb_jobs.specs.{Reads.{is_among}, Reach.{AgreeApartFrom}}
use Rattle.fb_entries.specs.Indexed.{IsIndexOf, IsUpdated}
use Rattle.fb_entries.proofs.Again.{repeated_after}

mentioned_in : (texts : Texts) (unit : List ℕ) (text : Option (List ℕ)) → text_at texts unit ≡ text → mentioned_at (sources_of texts) unit ≡ mentions_of_tree (option_and_then tree_of text)
mentioned_in texts unit text is = ap (λ o. mentions_of_tree (option_and_then tree_of o)) (get_source texts unit ∙ is)

same_mentioned : (a b : Texts) (unit : List ℕ) → text_at a unit ≡ text_at b unit → mentioned_at (sources_of a) unit ≡ mentioned_at (sources_of b) unit
same_mentioned a b unit same = mentioned_in a unit (text_at b unit) same ∙ sym (mentioned_in b unit (text_at b unit) refl)

-- ---- one unit

module _ (texts : Texts) (unit : List ℕ) (old new : Indexed) where
  pub updated_text : (text : List ℕ) (m : Mentioned) → text_at texts unit ≡ Some text → m ≡ mentions_of_tree (tree_of text) → IsReplaced old unit m new → IsUpdated texts unit old new
  updated_text text m is m_is it = record {
    own = subst (IsIndexedAs new unit) (m_is ∙ sym (mentioned_in texts unit (Some text) is)) it.own;
    there = it.there ∙ sym (ap is_some is);
    others = it.others;
  }

  pub updated_none : text_at texts unit ≡ None → IsRemoved old unit new → IsUpdated texts unit old new
  updated_none is it = record {
    own = subst (IsIndexedAs new unit) (sym (mentioned_in texts unit None is)) it.own;
    there = it.gone ∙ sym (ap is_some is);
    others = it.others;
  }

-- ---- one unit after the other

or_parts : (a b : Bool) → (a || b) ≡ false → (a ≡ false) × (b ≡ false)
or_parts true b e = absurd (true≢false e)
or_parts false b e = (refl, e)

module _ (before after : Texts) where
  -- these units are indexed as after the commit, and the others as before it
  pub record IsReindexed (units : List (List ℕ)) (old new : Indexed) : Type 0 where
    pub changed : (unit : List ℕ) → is_among unit units ≡ true → IsIndexedAs new unit (mentioned_at (sources_of after) unit)
    pub kept : (unit : List ℕ) → is_among unit units ≡ false → IsIndexedAs new unit (mentioned_at (sources_of before) unit)
    pub there : (unit : List ℕ) → is_among unit units ≡ true → is_indexed new unit ≡ is_some (text_at after unit)
    pub still : (unit : List ℕ) → is_among unit units ≡ false → is_indexed new unit ≡ is_indexed old unit

  pub reindexed_none : (old new : Indexed) → IsIndexOf before old → new ≡ old → IsReindexed [] old new
  reindexed_none old new index same =
      subst (λ us. IsReindexed [] old us) (sym same) (record {
        changed = λ unit among. absurd (false≢true among);
        kept = λ unit none. index.mentions unit;
        there = λ unit among. absurd (false≢true among);
        still = λ unit none. refl;
      })

  pub known_here : (prefix : List (List ℕ)) (x : List ℕ) (old made : Indexed) (m : Mentioned) → IsReindexed prefix old made → is_among x prefix ≡ false → m ≡ mentioned_at (sources_of before) x → IsIndexedAs made x m
  known_here prefix x old made m so_far none is = subst (IsIndexedAs made x) (sym is) (so_far.kept x none)

  module _ (prefix now : List (List ℕ)) (x : List ℕ) (old made new : Indexed) where
    pub reindexed_more : now ≡ prefix ++ x ∷ [] → is_among x prefix ≡ false → IsReindexed prefix old made → IsUpdated after x made new → IsReindexed now old new
    reindexed_more is none so_far it = record {
      changed = λ unit among. or_cases (is_among unit prefix) (is_at (name_cmp unit) x) (sym (now_has unit) ∙ among)
          (λ l. still_indexed (it.others unit (apart unit l)) (so_far.changed unit l))
          (λ r. subst (λ u. IsIndexedAs new u (mentioned_at (sources_of after) u)) (sym (same_is unit x r)) it.own);
      kept = λ unit left.
          let parts = or_parts (is_among unit prefix) (is_at (name_cmp unit) x) (sym (now_has unit) ∙ left) in
          still_indexed (it.others unit (flips x unit ∙ parts.1)) (so_far.kept unit parts.0);
      there = λ unit among. or_cases (is_among unit prefix) (is_at (name_cmp unit) x) (sym (now_has unit) ∙ among)
          (λ l. ap is_some (it.others unit (apart unit l)).mark ∙ so_far.there unit l)
          (λ r. subst (λ u. is_indexed new u ≡ is_some (text_at after u)) (sym (same_is unit x r)) it.there);
      still = λ unit left.
          let parts = or_parts (is_among unit prefix) (is_at (name_cmp unit) x) (sym (now_has unit) ∙ left) in
          ap is_some (it.others unit (flips x unit ∙ parts.1)).mark ∙ so_far.still unit parts.0;
    }
      where
        now_has : (unit : List ℕ) → is_among unit now ≡ (is_among unit prefix || is_at (name_cmp unit) x)
        now_has unit = ap (is_among unit) is ∙ has-push prefix x unit

        apart : (unit : List ℕ) → is_among unit prefix ≡ true → is_at (name_cmp x) unit ≡ false
        apart unit among = by_bool (is_at (name_cmp x) unit) (λ t. no_both (is_among x prefix) (ap (λ u. is_among u prefix) (same_is x unit t) ∙ among) none) (λ f. f)

  pub indexed_after : (units : List (List ℕ)) (old new : Indexed) → IsIndexOf before old → AgreeApartFrom units before after → IsReindexed units old new → IsIndexOf after new
  indexed_after units old new index others it = record {
    mentions = λ unit. by_bool (is_among unit units)
        (it.changed unit)
        (λ f. subst (IsIndexedAs new unit) (same_mentioned before after unit (others unit f)) (it.kept unit f));
    units = λ unit. by_bool (is_among unit units)
        (it.there unit)
        (λ f. it.still unit f ∙ index.units unit ∙ ap is_some (others unit f));
  }

-- ---- no texts

pub indexed_none : (texts : Texts) (index : Indexed) → texts ≡ [] → index ≡ nothing_indexed → IsIndexOf texts index
indexed_none texts index none empty =
    subst (λ us. IsIndexOf texts us) (sym empty)
    (subst (λ us. IsIndexOf us nothing_indexed) (sym none) (record {
      mentions = λ unit. subst (IsIndexedAs nothing_indexed unit) (sym (mentioned_in [] unit None refl)) (nothing_known unit);
      units = λ unit. refl;
    }))

-- ---- no unit is changed twice

pub not_again : (prefix rest : List (List ℕ)) (x : List ℕ) → repeated_after prefix (x ∷ rest) ≡ None → is_among x prefix ≡ false
not_again prefix rest x none = by (is_among x prefix) refl none
  where
    by : (b : Bool) → is_among x prefix ≡ b → cond b (Some x) (repeated_after (prefix ++ x ∷ []) rest) ≡ None → is_among x prefix ≡ false
    by true is e = cc
    by false is e = is

pub none_again : (prefix rest : List (List ℕ)) (x : List ℕ) → repeated_after prefix (x ∷ rest) ≡ None → repeated_after (prefix ++ x ∷ []) rest ≡ None
none_again prefix rest x none = sym (ap (λ b. cond b (Some x) (repeated_after (prefix ++ x ∷ []) rest)) (not_again prefix rest x none)) ∙ none
