-- What is left to look at where nets are kept.
use Rattle.std.proofs.Common.{ℕ, ◌≡◌, false, not, cond, ◌||◌, List, [], Option, None, inl, inr, ◌∙◌, ap, subst, get_or, arith}
use Rattle.std.proofs.{lemmas.Bool.{or_right}, lemmas.List.{get_or_default}}
use Rattle.std.specs.{Prelude.{Contains, ◌≢◌, ◌↔◌, ◌⊎◌}, BTreeMap.{is_at}, FinMap.{get}}
use Rattle.fb_types.proofs.{Text.Tests.{by_bool}, Text.Members.{contains_nothing}, Library.Locality.{part_mention, parts_rest, rests_both}}
use Rattle.fb_types.proofs.{Network.Equals.{bytes_same}, UncachedLemmas.{get_uncached}}
use Rattle.fb_types.specs.{Text.Order.{name_cmp}, Library.View.{Sources, parts_at}, Library.Rests.{Rests, itself, through, PartRests, on_itself, through_part}}
use Rattle.fb_types.specs.Order.{IsOrdered}
use Rattle.fb_types.specs.Reaches.{Reaches, directly, onward, IsRecursive, RestsOnRecursive, PartRestsOnRecursive, SomePartRestsOnRecursive}
use Rattle.fb_flatten.specs.{Hints.{AreRightHints, is_uncached, is_whole_hint, uncached_of}, Net.{PlainNet, IsSound, IsWhole}, Suspects.{AreFinite}}
use Rattle.fb_flatten.specs.Tables.{IsUnitOrder}
use Rattle.fb_flatten.proofs.{Depths.{rests_of_reach}, HintLemmas.{known_sound}, KeptLemmas.{part_kept, reaches_within, rests_within}}
use Rattle.fb_flatten.proofs.SoundLemmas.{sound_below, sound_where}

module _ (hints : List ℕ → Option PlainNet) (sources : Sources) (unit : List ℕ) where
  abbrev left : Sources
  left = uncached_of hints sources unit

  abbrev left_is : (n : List ℕ) → get left n ≡ cond (is_uncached hints unit n) (get sources n) None
  left_is = get_uncached hints sources unit

  part_rests : {u v : List ℕ} → PartRests left u v → PartRests sources u v
  part_rests r = rests_within sources left (is_uncached hints unit) left_is r

  -- a cycle among what is left is one of all
  pub recursive_within : (suspects : List (List ℕ)) → ((v : List ℕ) → Contains suspects v → Rests sources unit v) → SomePartRestsOnRecursive left suspects ⊎ PartRestsOnRecursive left unit → RestsOnRecursive sources unit
  recursive_within suspects sound (inl r) =
      (r.0, (rests_both (sound r.1.0.0 r.1.0.1.0) (parts_rest sources (part_rests r.1.0.1.1)), reaches_within sources left (is_uncached hints unit) left_is r.1.1))
  recursive_within suspects sound (inr r) =
      (r.0, (parts_rest sources (part_rests r.1.0), reaches_within sources left (is_uncached hints unit) left_is r.1.1))

  module _ (right : AreRightHints sources hints) where
    settled_finite : (n v : List ℕ) → is_uncached hints unit n ≡ false → Rests sources n v → IsRecursive sources v → ⊥
    settled_finite n v f r rec =
        contains_nothing v (((known_sound sources hints n right (grind arith)).finite.members v).1 (r, rec))

    -- a cycle is left whole
    reaches_left : {u v : List ℕ} → Reaches sources u v → IsRecursive sources v → Reaches left u v
    reaches_left {u} {v} (directly m) rec =
        by_bool (is_uncached hints unit u)
        (λ t. directly (part_kept sources left (is_uncached hints unit) left_is u v t m))
        (λ f. absurd (settled_finite u v f (through (part_mention sources u v m) itself) rec))
    reaches_left {u} {v} (onward {w = w} m r) rec =
        by_bool (is_uncached hints unit u)
        (λ t. onward (part_kept sources left (is_uncached hints unit) left_is u w t m) (reaches_left r rec))
        (λ f. absurd (settled_finite u v f (through (part_mention sources u w m) (parts_rest sources (rests_of_reach r))) rec))

    -- where none of the suspects rests on a cycle, there is none
    pub sound_of_finite : (suspects : List (List ℕ)) → get sources unit ≢ None → IsWhole sources unit → ((v : List ℕ) → Rests sources unit v → IsRecursive sources v → Contains suspects v) → AreFinite left suspects → IsSound sources unit
    sound_of_finite suspects present whole listed finite =
        sound_where present whole (λ v r rec. finite (v, ((v, (listed v r rec, on_itself)), reaches_left rec rec)))

    -- an order of what is left, where the unit is sound
    pub unit_order : (order : List (List ℕ)) → IsSound sources unit → IsOrdered left order → ((v : List ℕ) → Contains order v ↔ PartRests left unit v) → IsUnitOrder sources hints unit order
    unit_order order sound ordered whole =
        record {
          names = record {
            inner_first = λ k name w lt e unknown m.
                let place : name ≡ get_or order k [] = e ∙ get_or_default order k name [] lt in
                let there = part_kept sources left (is_uncached hints unit) left_is name w (or_right (is_at (name_cmp unit) name) _ (ap not unknown)) m in
                ordered.inner_first k lt w (subst (λ (n : List ℕ). Contains (parts_at left n) w) place there);
            sound = λ name c. sound_below sound name (part_rests ((whole name).0 c));
          };
          own = (whole unit).1 on_itself;
          parts = λ w m. (whole w).1 (through_part (part_kept sources left (is_uncached hints unit) left_is unit w (ap (λ b. b || not (is_whole_hint (hints unit))) (bytes_same unit)) m) on_itself);
          below = λ name c. part_rests ((whole name).0 c);
        }
