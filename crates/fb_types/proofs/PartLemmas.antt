-- The names of a list that reach themselves.
use Rattle.std.proofs.{Common.{◌≡◌, ℕ, Bool, true, cond, List, [], ◌∷◌, refl, sym, ap, subst, ◌∙◌}, lemmas.Bool.{false≢true, or_left, or_right}}
use Rattle.std.proofs.lemmas.List.Kept.{IsStrictlySortedBy-filter}
use Rattle.std.specs.{List.{Contains, filter}, List.Sorted.{IsStrictlySortedBy}}
use Rattle.fb_tree.proofs.Text.Tests.{by_bool, or_cases, no_both}
use Rattle.fb_tree.specs.Text.Order.{name_cmp}
use Rattle.fb_iface.proofs.{Library.SeenLemmas.{same, same_is, same_self}, Library.WalkLemmas.{Contains-has, has-Contains}}
use Rattle.fb_iface.specs.{Library.View.{Sources, parts_at}, Library.Rests.{on_itself}, Library.Seen.{has_name}}
use Rattle.fb_types.specs.Reaches.{Reaches, directly, onward, IsRecursive, RecursivePart, none, keeps, skips, SomePartRestsOnRecursive}
use Rattle.fb_types.specs.Graph.{Edges, edges_at, Follows, one, more, IsGraph}
use Rattle.fb_types.proofs.{GraphLemmas.{follow_first}, StackLemmas.{reaches_more}}

module _ (sources : Sources) where
  -- none of the names reaches itself
  part_empty : (names : List (List ℕ)) → ((q : List ℕ) → has_name names q ≡ true → ¬ IsRecursive sources q) → RecursivePart sources names []
  part_empty [] free = none
  part_empty (x ∷ names) free = skips (free x (or_left (same x x) (has_name names x) (same_self x))) (part_empty names (λ q h. free q (or_right (same q x) (has_name names q) h)))

  pub part_of_none : (names : List (List ℕ)) → ¬ SomePartRestsOnRecursive sources names → RecursivePart sources names []
  part_of_none names free = part_empty names (λ q h loop. free (q, ((q, (Contains-has q names h, on_itself)), loop)))

  of_found : {names found : List (List ℕ)} → RecursivePart sources names found → (q : List ℕ) → has_name found q ≡ true → IsRecursive sources q
  of_found none q h = absurd (false≢true h)
  of_found (keeps {name = x} {found = found} r part) q h =
      or_cases (same q x) (has_name found q) h (λ s. subst (IsRecursive sources) (sym (same_is q x s)) r) (λ l. of_found part q l)
  of_found (skips n part) q h = of_found part q h

  from_names : {names found : List (List ℕ)} → RecursivePart sources names found → (q : List ℕ) → has_name found q ≡ true → has_name names q ≡ true
  from_names none q h = h
  from_names (keeps {name = x} {names = names} {found = found} r part) q h =
      or_cases (same q x) (has_name found q) h (λ s. or_left (same q x) (has_name names q) s) (λ l. or_right (same q x) (has_name names q) (from_names part q l))
  from_names (skips {name = x} {names = names} n part) q h = or_right (same q x) (has_name names q) (from_names part q h)

  all_found : {names found : List (List ℕ)} → RecursivePart sources names found → (q : List ℕ) → has_name names q ≡ true → IsRecursive sources q → has_name found q ≡ true
  all_found none q h loop = h
  all_found (keeps {name = x} {names = names} {found = found} r part) q h loop =
      or_cases (same q x) (has_name names q) h (λ s. or_left (same q x) (has_name found q) s) (λ l. or_right (same q x) (has_name found q) (all_found part q l loop))
  all_found (skips {name = x} {names = names} n part) q h loop =
      or_cases (same q x) (has_name names q) h (λ s. absurd (n (subst (IsRecursive sources) (same_is q x s) loop))) (λ l. all_found part q l loop)

  pub part_members : (names found : List (List ℕ)) → RecursivePart sources names found → (v : List ℕ) → (Contains found v → Contains names v × IsRecursive sources v) × (Contains names v × IsRecursive sources v → Contains found v)
  part_members names found part v = (
    λ there. (Contains-has v names (from_names part v (has-Contains v found there)), of_found part v (has-Contains v found there)),
    λ r. Contains-has v found (all_found part v (has-Contains v names r.0) r.1),
  )

  -- what a test keeps that holds at the names that reach themselves
  filtered : {names found : List (List ℕ)} (p : List ℕ → Bool) → ((q : List ℕ) → p q ≡ true → IsRecursive sources q) → ((q : List ℕ) → has_name names q ≡ true → IsRecursive sources q → p q ≡ true) → RecursivePart sources names found → found ≡ filter p names
  filtered p sound whole none = refl
  filtered p sound whole (keeps {name = x} {names = names} r part) =
      ap (λ l. x ∷ l) (filtered p sound (λ q h. whole q (or_right (same q x) (has_name names q) h)) part)
      ∙ sym (ap (λ b. cond b (x ∷ filter p names) (filter p names)) (whole x (or_left (same x x) (has_name names x) (same_self x)) r))
  filtered p sound whole (skips {name = x} {names = names} n part) =
      by_bool (p x)
      (λ t. absurd (n (sound x t)))
      (λ f. filtered p sound (λ q h. whole q (or_right (same q x) (has_name names q) h)) part ∙ sym (ap (λ b. cond b (x ∷ filter p names) (filter p names)) f))

  pub part_sorted : (names found : List (List ℕ)) → RecursivePart sources names found → IsStrictlySortedBy name_cmp names → IsStrictlySortedBy name_cmp found
  part_sorted names found part sorted =
      subst (λ (l : List (List ℕ)). IsStrictlySortedBy name_cmp l) (sym (filtered (has_name found) (of_found part) (all_found part) part)) (IsStrictlySortedBy-filter name_cmp (has_name found) names sorted)

-- ---- the edges of a graph are the mentions
module _ (sources : Sources) (begun names : List (List ℕ)) (forth back : Edges) (graph : IsGraph sources begun names forth back) where
  edge_mentions : (u v : List ℕ) → Contains (edges_at forth u) v → Contains (parts_at sources u) v
  edge_mentions u v m = by_bool (has_name names u)
      (λ t. subst (λ (l : List (List ℕ)). Contains l v) (graph.mentions u t) m)
      (λ f. absurd (false≢true (sym (ap (λ l. has_name l v) (graph.outside u f)) ∙ has-Contains v (edges_at forth u) m)))

  to_reaches : {u v : List ℕ} → Follows (edges_at forth) u v → Reaches sources u v
  to_reaches {u} {v} (one m) = directly (edge_mentions u v m)
  to_reaches {v = v} (more {w = w} r m) = reaches_more (to_reaches r) (edge_mentions w v m)

  mention_edge : (u v : List ℕ) → has_name names u ≡ true → Contains (parts_at sources u) v → Contains (edges_at forth u) v
  mention_edge u v t m = subst (λ (l : List (List ℕ)). Contains l v) (sym (graph.mentions u t)) m

  to_follows : {u v : List ℕ} → has_name names u ≡ true → Reaches sources u v → Follows (edges_at forth) u v
  to_follows {u} {v} t (directly m) = one (mention_edge u v t m)
  to_follows {u} t (onward {w = w} m r) = follow_first (edges_at forth) (mention_edge u w t m) (to_follows (graph.closed u w t (has-Contains w (parts_at sources u) m)) r)

  -- what a test keeps that holds at the names that reach themselves
  part_of_test : (p : List ℕ → Bool) (some : List (List ℕ)) → ((u : List ℕ) → has_name some u ≡ true → (p u ≡ true → IsRecursive sources u) × (IsRecursive sources u → p u ≡ true)) → RecursivePart sources some (filter p some)
  part_of_test p [] tells = none
  part_of_test p (x ∷ some) tells =
      let here = tells x (or_left (same x x) (has_name some x) (same_self x)) in
      let rest = part_of_test p some (λ u h. tells u (or_right (same u x) (has_name some u) h)) in
      by_bool (p x)
      (λ t. subst (λ (b : Bool). RecursivePart sources (x ∷ some) (cond b (x ∷ filter p some) (filter p some))) (sym t) (keeps (here.0 t) rest))
      (λ f. subst (λ (b : Bool). RecursivePart sources (x ∷ some) (cond b (x ∷ filter p some) (filter p some))) (sym f) (skips (λ loop. no_both (p x) (here.1 loop) f) rest))

  pub part_of_cycles : (found : List (List ℕ)) → ((u : List ℕ) → Contains begun u → (Contains found u → Follows (edges_at forth) u u) × (Follows (edges_at forth) u u → Contains found u)) → (kept : List (List ℕ)) → kept ≡ filter (has_name found) begun → RecursivePart sources begun kept
  part_of_cycles found tells kept is =
      subst (λ (l : List (List ℕ)). RecursivePart sources begun l) (sym is)
      (part_of_test (has_name found) begun (λ u h.
      let at = tells u (Contains-has u begun h) in (
        λ t. to_reaches (at.0 (Contains-has u found t)),
        λ loop. has-Contains u found (at.1 (to_follows (graph.begins u h) loop)),
      )))
