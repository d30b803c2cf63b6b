-- Ordered lists: one more name, and what they rule out.
use Rattle.std.proofs.Common.{◌≡◌, ℕ, ◌+◌, ◌<◌, ◌≤◌, true, false, List, [], ◌∷◌, ◌++◌, length, take, get_or, refl, sym, subst, ◌∙◌, arith, below_more, length-append}
use Rattle.std.proofs.lemmas.List.{take-append-le, take_at, get_or_append_left, get_or_at, get_or_default, get_or-take, length-take-le}
use Rattle.std.specs.List.{Contains}
use Rattle.fb_tree.proofs.Text.Tests.{no_both}
use Rattle.fb_iface.specs.{Library.View.{Sources, parts_at}, Library.Rests.{PartRests, on_itself, through_part}, Library.Seen.{has_name}}
use Rattle.fb_iface.proofs.Library.WalkLemmas.{has-Contains, Contains-has}
use Rattle.fb_types.specs.{Reaches.{Reaches, directly, onward}, Order.{IsOrdered}, LocalOrder.{OrderedIsNotRecursive}}

-- ---- the first names of a list
-- a name that a list contains stands at its place for any default
placed : (order : List (List ℕ)) (k : ℕ) (v d : List ℕ) → k < length order → get_or order k v ≡ v → get_or order k d ≡ v
placed order k v d below is = get_or_default order k d v below ∙ is

-- a place among the first ones is a place of the list
pub record StandsBelow (order : List (List ℕ)) (k : ℕ) (v : List ℕ) : Type 0 where
  pub place : ℕ
  pub below : place < k
  pub named : get_or order place [] ≡ v

within_take : (order : List (List ℕ)) (k : ℕ) → k ≤ length order → (v : List ℕ) → Contains (take k order) v → StandsBelow order k v
within_take order k le v there =
    let short = length-take-le k order le in
    let below : there.0 < k = omega (arith, short, there.1) in
    record {
      place = there.0;
      below = below;
      named = get_or_default order there.0 [] v (omega arith) ∙ sym (get_or-take k order there.0 v below) ∙ there.2;
    }

take_within : (order : List (List ℕ)) (k : ℕ) → k ≤ length order → (v : List ℕ) → StandsBelow order k v → Contains (take k order) v
take_within order k le v at =
    let short = length-take-le k order le in
    let below : at.place < k = at.below in
    let inside : at.place < length (take k order) = omega (arith, short, below) in
    (at.place, inside, get_or-take k order at.place v below ∙ get_or_default order at.place v [] (omega arith) ∙ at.named)

wider : (order : List (List ℕ)) (j k : ℕ) → j < k → k < length order → (v : List ℕ) → Contains (take j order) v → Contains (take k order) v
wider order j k less below v there =
    let at = within_take order j (omega arith) v there in
    let lower : at.place < j = at.below in
    take_within order k (omega arith) v (record { place = at.place; below = omega arith; named = at.named })

listed_of_take : (order : List (List ℕ)) (k : ℕ) → k < length order → (v : List ℕ) → Contains (take k order) v → Contains order v
listed_of_take order k below v there =
    let at = within_take order k (omega arith) v there in
    let lower : at.place < k = at.below in
    let inside : at.place < length order = omega arith in
    (at.place, inside, get_or_default order at.place v [] inside ∙ at.named)

-- ---- what an ordered list rules out
module _ (sources : Sources) (order : List (List ℕ)) (ordered : IsOrdered sources order) where
  -- all that the name at a place reaches comes before it
  pub falls_back : {u v : List ℕ} → Reaches sources u v → (k : ℕ) → k < length order → get_or order k [] ≡ u → Contains (take k order) v
  falls_back {v = v} (directly m) k below is = ordered.inner_first k below v (subst (λ (n : List ℕ). Contains (parts_at sources n) v) (sym is) m)
  falls_back {v = v} (onward {w = w} m r) k below is =
      let at = within_take order k (omega arith) w (ordered.inner_first k below w (subst (λ (n : List ℕ). Contains (parts_at sources n) w) (sym is) m)) in
      let lower : at.place < k = at.below in
      wider order at.place k lower below v (falls_back r at.place (omega arith) at.named)

  pub not_recursive : (name : List ℕ) → Contains order name → ¬ Reaches sources name name
  not_recursive name there loop =
      let is : get_or order there.0 [] ≡ name = placed order there.0 name [] there.1 there.2 in
      ordered.once there.0 there.1 (subst (λ (n : List ℕ). Contains (take there.0 order) n) (sym is) (falls_back loop there.0 there.1 is))

  -- what a listed name mentions is listed
  pub closed : (u w : List ℕ) → Contains order u → Contains (parts_at sources u) w → Contains order w
  closed u w there m =
      let is : get_or order there.0 [] ≡ u = placed order there.0 u [] there.1 there.2 in
      listed_of_take order there.0 there.1 w (ordered.inner_first there.0 there.1 w (subst (λ (n : List ℕ). Contains (parts_at sources n) w) (sym is) m))

  -- and all that it rests on
  pub all_listed : {u v : List ℕ} → PartRests sources u v → Contains order u → Contains order v
  all_listed on_itself there = there
  all_listed {u} (through_part {w = w} m r) there = all_listed r (closed u w there m)

pub ordered_not_recursive : OrderedIsNotRecursive
ordered_not_recursive sources order ordered name there = not_recursive sources order ordered name there

-- ---- one more name
pub IsOrdered-none : (sources : Sources) → IsOrdered sources []
IsOrdered-none sources = record {
  inner_first = λ k below w m. absurd (omega arith);
  once = λ k below there. absurd (omega arith);
}

module _ (sources : Sources) (order : List (List ℕ)) (v : List ℕ) (ordered : IsOrdered sources order) (unlisted : has_name order v ≡ false) (ready : (w : List ℕ) → Contains (parts_at sources v) w → has_name order w ≡ true) where
  abbrev InnerAt : ℕ → Type 0
  InnerAt k = (w : List ℕ) → Contains (parts_at sources (get_or (order ++ v ∷ []) k [])) w → Contains (take k (order ++ v ∷ [])) w

  abbrev OnceAt : ℕ → Type 0
  OnceAt k = Contains (take k (order ++ v ∷ [])) (get_or (order ++ v ∷ []) k []) → ⊥

  inner_before : (k : ℕ) → k < length order → InnerAt k
  inner_before k below w m =
      subst (λ (l : List (List ℕ)). Contains l w) (sym (take-append-le k order (v ∷ []) (omega arith)))
      (ordered.inner_first k below w (subst (λ (n : List ℕ). Contains (parts_at sources n) w) (get_or_append_left order (v ∷ []) [] k below) m))

  inner_last : InnerAt (length order)
  inner_last w m =
      subst (λ (l : List (List ℕ)). Contains l w) (sym (take_at order (v ∷ []) (length order) refl))
      (Contains-has w order (ready w (subst (λ (n : List ℕ). Contains (parts_at sources n) w) (get_or_at order v [] [] (length order) refl) m)))

  once_before : (k : ℕ) → k < length order → OnceAt k
  once_before k below there =
      ordered.once k below
      (subst (λ (l : List (List ℕ)). Contains l (get_or order k [])) (take-append-le k order (v ∷ []) (omega arith))
      (subst (λ (n : List ℕ). Contains (take k (order ++ v ∷ [])) n) (get_or_append_left order (v ∷ []) [] k below) there))

  once_last : OnceAt (length order)
  once_last there =
      let listed : Contains order v = subst (λ (l : List (List ℕ)). Contains l v) (take_at order (v ∷ []) (length order) refl)
      (subst (λ (n : List ℕ). Contains (take (length order) (order ++ v ∷ [])) n) (get_or_at order v [] [] (length order) refl) there) in
      no_both (has_name order v) (has-Contains v order listed) unlisted

  last_place : (k : ℕ) → k < length (order ++ v ∷ []) → k < length order + 1
  last_place k below = let long = length-append order (v ∷ []) in omega (arith, long, below)

  pub IsOrdered-push : IsOrdered sources (order ++ v ∷ [])
  IsOrdered-push = record {
    inner_first = λ k below. below_more InnerAt (length order) inner_before inner_last k (last_place k below);
    once = λ k below. below_more OnceAt (length order) once_before once_last k (last_place k below);
  }
