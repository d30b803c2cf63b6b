-- A walk along edges: what it keeps.
use Rattle.std.proofs.Common.{◌≡◌, ℕ, ◌+◌, ◌<◌, true, false, ◌||◌, List, [], ◌∷◌, ◌++◌, length, refl, sym, ap, subst, ◌∙◌, arith}
use Rattle.std.proofs.lemmas.Bool.{false≢true, or_left, or_right}
use Rattle.std.specs.List.{Contains}
use Rattle.fb_tree.proofs.Text.Tests.{by_bool, or_cases, or_false, no_both}
use Rattle.fb_iface.proofs.{Library.SeenLemmas.{same, same_is, same_self}, Library.WalkLemmas.{Contains-has, has-Contains, has-push, longer}}
use Rattle.fb_iface.specs.Library.Seen.{has_name, unseen, Opens}
use Rattle.fb_types.specs.Graph.{Follows, one, more}

-- seen names are reached; the edges of those that are not pending lead to seen ones, and so do those of the first name
pub record IsWalk (next : List ℕ → List (List ℕ)) (unit : List ℕ) (seen pending : List (List ℕ)) : Type 0 where
  pub sound : (q : List ℕ) → has_name seen q ≡ true → Follows next unit q
  pub within : (q : List ℕ) → has_name pending q ≡ true → (has_name seen q || same q unit) ≡ true
  pub closed : (q w : List ℕ) → (has_name seen q || same q unit) ≡ true → has_name pending q ≡ false → has_name (next q) w ≡ true → has_name seen w ≡ true

module _ (next : List ℕ → List (List ℕ)) (unit : List ℕ) where
  only_unit : IsWalk next unit [] (unit ∷ [])
  only_unit = record {
    sound = λ q h. absurd (false≢true h);
    within = λ q h. sym (or_false (same q unit)) ∙ h;
    closed = λ q w s o m. no_both (same q unit) s (sym (or_false (same q unit)) ∙ o);
  }

  pub IsWalk-begin : (seen pending : List (List ℕ)) → seen ≡ [] → pending ≡ unit ∷ [] → IsWalk next unit seen pending
  IsWalk-begin seen pending none is =
      subst (λ (x : List (List ℕ)). IsWalk next unit x pending) (sym none) (subst (λ (x : List (List ℕ)). IsWalk next unit [] x) (sym is) only_unit)

  module _ (seen pending seen' pending' : List (List ℕ)) (name : List ℕ) where
    pub IsWalk-step : IsWalk next unit seen (pending ++ name ∷ []) → Opens (next name) seen pending seen' pending' → IsWalk next unit seen' pending'
    IsWalk-step walk opens =
        let named : (has_name seen name || same name unit) ≡ true = walk.within name (has-push pending name name ∙ or_right (has_name pending name) (same name name) (same_self name)) in
        record {
          sound = λ q h. or_cases (has_name seen q) (has_name (next name) q) (sym (opens.marks q) ∙ h)
              (walk.sound q)
              (λ m.
              let leads : Contains (next name) q = Contains-has q (next name) m in
              or_cases (has_name seen name) (same name unit) named
              (λ l. more (walk.sound name l) leads)
              (λ is. one (subst (λ (n : List ℕ). Contains (next n) q) (same_is name unit is) leads)));
          within = λ q h. let only = opens.only q h in grind (arith, opens.marks q, walk.within q, has-push pending name q);
          closed = λ q w s o m.
              let on : same q name ≡ true → has_name (next name) w ≡ true = λ is. sym (ap (λ n. has_name (next n) w) (same_is q name is)) ∙ m in
              let opened = opens.opened q in
              let kept = opens.keeps q in
              let closed = walk.closed q w in
              grind (arith, opens.marks q, opens.marks w, has-push pending name q);
        }

    -- a name that no edge leaves
    pub IsWalk-end : IsWalk next unit seen (pending ++ name ∷ []) → next name ≡ [] → IsWalk next unit seen pending
    IsWalk-end walk ends = record {
      sound = walk.sound;
      within = λ q h. walk.within q (has-push pending name q ∙ or_left (has_name pending q) (same q name) h);
      closed = λ q w s o m. by_bool (same q name)
          (λ is. absurd (false≢true (sym (ap (λ l. has_name l w) ends) ∙ sym (ap (λ n. has_name (next n) w) (same_is q name is)) ∙ m)))
          (λ other. walk.closed q w s (has-push pending name q ∙ ap (λ b. b || same q name) o ∙ other) m);
    }

  pub followed : (seen : List (List ℕ)) → IsWalk next unit seen [] → {v : List ℕ} → Follows next unit v → has_name seen v ≡ true
  followed seen walk {v} (one m) = walk.closed unit v (or_right (has_name seen unit) (same unit unit) (same_self unit)) refl (has-Contains v (next unit) m)
  followed seen walk {v} (more {w = w} r m) = walk.closed w v (or_left (has_name seen w) (same w unit) (followed seen walk r)) refl (has-Contains v (next w) m)

  pub walk_at_end : (seen : List (List ℕ)) → IsWalk next unit seen [] → (v : List ℕ) → (Contains seen v → Follows next unit v) × (Follows next unit v → Contains seen v)
  walk_at_end seen walk v = (λ h. walk.sound v (has-Contains v seen h), λ r. Contains-has v seen (followed seen walk r))

-- what is opened is within the set
pub walk_falls : (names within seen pending seen' pending' before : List (List ℕ)) (name : List ℕ) → Opens names seen pending seen' pending' → ((q : List ℕ) → has_name names q ≡ true → has_name within q ≡ true) → before ≡ pending ++ name ∷ [] → unseen seen' within + length pending' < unseen seen within + length before
walk_falls names within seen pending seen' pending' before name opens inside is =
    let falls = opens.falls within inside in
    let long = longer before pending name is in
    omega (arith, falls, long)
