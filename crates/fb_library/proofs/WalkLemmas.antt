-- The walk from name to name: what it keeps.
use Rattle.std.proofs.Common.{◌≡◌, ℕ, ◌+◌, ◌<◌, true, false, List, [], ◌∷◌, ◌++◌, length, Option, None, refl, sym, ap, subst, ◌∙◌, arith}
use Rattle.std.proofs.{lemmas.List.{append-nil}, lemmas.List.Concat.{flat_map-append}, lemmas.List.Elements.{Contains-append_left, Contains-append_right}}
use Rattle.std.specs.{List.{Contains, flat_map}, Option.{option_and_then}, Ordering.{eq_by_cmp}, FinMap.{entries, get-entries, find}}
use Rattle.fb_parse.specs.{Text.Order.{name_cmp}, Tree.Tree.{DeclTree}}
use Rattle.fb_parse.proofs.Text.Tests.{by_bool, or_cases, or_false, no_both}
use Rattle.fb_library.specs.{View.{Sources, tree_of, tree_at}, Near.{in_all_trees}, Opened.{Leads, itself, through, LedFrom, IsWithin}}
use Rattle.fb_library.specs.Seen.{has_name, unseen, Opens}
use Rattle.fb_library.proofs.{SeenLemmas.{or_left, or_right, same, same_is, same_self}, Opening.{leads_more}}
pub use Rattle.fb_library.proofs.SeenLemmas.{Contains-has, has-Contains, has-push, Opens-none, Opens-new, Opens-old, Opens-both, has-updates, not_true, not_false, begun, one_pushed, longer}

-- ---- the whole walk

-- the starts lead to all that is seen; those that are not pending have what is next to them seen
pub record IsWalk (next : List ℕ → List (List ℕ)) (starts seen pending : List (List ℕ)) : Type 0 where
  pub start : (q : List ℕ) → has_name starts q ≡ true → has_name seen q ≡ true
  pub sound : (q : List ℕ) → has_name seen q ≡ true → LedFrom next starts q
  pub within : (q : List ℕ) → has_name pending q ≡ true → has_name seen q ≡ true
  pub closed : (q w : List ℕ) → has_name seen q ≡ true → has_name pending q ≡ false → has_name (next q) w ≡ true → has_name seen w ≡ true

module _ (next : List ℕ → List (List ℕ)) (starts : List (List ℕ)) where
  pub IsWalk-begin : (seen pending : List (List ℕ)) → Opens starts [] [] seen pending → IsWalk next starts seen pending
  IsWalk-begin seen pending opens = record {
    start = λ q h. opens.marks q ∙ h;
    sound = λ q h. (q, Contains-has q starts (sym (opens.marks q) ∙ h), itself);
    within = λ q h. opens.marks q ∙ opens.only q h;
    closed = λ q w s o m. no_both (has_name pending q) (opens.opened q s refl) o;
  }

  module _ (seen pending seen' pending' : List (List ℕ)) (name : List ℕ) where
    pub IsWalk-step : IsWalk next starts seen (pending ++ name ∷ []) → Opens (next name) seen pending seen' pending' → IsWalk next starts seen' pending'
    IsWalk-step walk opens =
        let named : has_name seen name ≡ true = walk.within name (has-push pending name name ∙ or_right (has_name pending name) (same name name) (same_self name)) in
        record {
          start = λ q h. opens.marks q ∙ or_left (has_name seen q) _ (walk.start q h);
          sound = λ q h. or_cases (has_name seen q) (has_name (next name) q) (sym (opens.marks q) ∙ h)
              (walk.sound q)
              (λ m. let from = walk.sound name named in (from.0, from.1, leads_more from.2 (Contains-has q (next name) m)));
          within = λ q h. grind (arith, opens.only q h, opens.marks q, walk.within q, has-push pending name q);
          closed = λ q w s o m. grind (arith, opens.marks q, opens.marks w, opens.keeps q, opens.opened q s, walk.closed q w, has-push pending name q, same_is q name);
        }

  reached : (seen : List (List ℕ)) → IsWalk next starts seen [] → {u v : List ℕ} → has_name seen u ≡ true → Leads next u v → has_name seen v ≡ true
  reached seen walk {u} {v} h itself = h
  reached seen walk {u} {v} h (through {w = w} m r) = reached seen walk (walk.closed u w h refl (has-Contains w (next u) m)) r

  pub complete_at_end : (seen : List (List ℕ)) → IsWalk next starts seen [] → (v : List ℕ) → LedFrom next starts v → has_name seen v ≡ true
  complete_at_end seen walk v led = reached seen walk (walk.start led.0 (has-Contains led.0 starts led.1)) led.2

-- a walk that begins at one name
pub IsWalk-one : (next : List ℕ → List (List ℕ)) (unit : List ℕ) (seen pending : List (List ℕ)) → ((q : List ℕ) → has_name seen q ≡ same q unit) → pending ≡ unit ∷ [] → IsWalk next (unit ∷ []) seen pending
IsWalk-one next unit seen pending one is = record {
  start = λ q h. one q ∙ sym (or_false (same q unit)) ∙ h;
  sound = λ q h. (q, Contains-has q (unit ∷ []) (or_false (same q unit) ∙ sym (one q) ∙ h), itself);
  within = λ q h. one q ∙ sym (or_false (same q unit)) ∙ sym (ap (λ l. has_name l q) is) ∙ h;
  closed = λ q w s o m. no_both (same q unit) (sym (one q) ∙ s) (sym (or_false (same q unit)) ∙ sym (ap (λ l. has_name l q) is) ∙ o);
}

-- a step takes a name away, or sees one of finitely many that was not seen
pub opens_falls : (next : List ℕ → List (List ℕ)) (all : List (List ℕ)) → IsWithin next all → (name : List ℕ) (seen pending seen' pending' before : List (List ℕ)) → Opens (next name) seen pending seen' pending' → before ≡ pending ++ name ∷ [] → unseen seen' all + length pending' < unseen seen all + length before
opens_falls next all within name seen pending seen' pending' before opens is =
    let falls = opens.falls all (λ q h. has-Contains q all (within name q (Contains-has q (next name) h))) in
    let more = longer before pending name is in
    omega (arith, falls, more)

-- opening what is next to one name after the other
pub opens_more : (next : List ℕ → List (List ℕ)) (prefix now : List (List ℕ)) (x : List ℕ) (seen pending seen' pending' : List (List ℕ)) → now ≡ prefix ++ x ∷ [] → Opens (flat_map next prefix) [] [] seen pending → Opens (next x) seen pending seen' pending' → Opens (flat_map next now) [] [] seen' pending'
opens_more next prefix now x seen pending seen' pending' is before here =
    let all : flat_map next now ≡ flat_map next prefix ++ next x = ap (flat_map next) is ∙ flat_map-append next prefix (x ∷ []) ∙ ap (λ l. flat_map next prefix ++ l) (append-nil (next x)) in
    subst (λ l. Opens l [] [] seen' pending') (sym all) (Opens-both (flat_map next prefix) (next x) [] [] seen pending seen' pending' before here)

-- ---- what all units mention, which bounds the walk

module _ (sort : Option DeclTree → List (List ℕ)) (nothing : sort None ≡ []) where
  found_in : (es : List (List ℕ × List ℕ)) (n q : List ℕ) → Contains (sort (option_and_then tree_of (find name_cmp n es))) q → Contains (flat_map (λ (e : List ℕ × List ℕ). sort (tree_of e.1)) es) q
  found_in [] n q h = subst (λ l. Contains l q) nothing h
  found_in (e ∷ es) n q h =
      by_bool (eq_by_cmp name_cmp n e.0)
      (λ t. Contains-append_left (sort (tree_of e.1)) _ q (rw t at h))
      (λ f. Contains-append_right (sort (tree_of e.1)) _ q (found_in es n q (rw f at h)))

  pub mentioned_somewhere : (sources : Sources) (n q : List ℕ) → Contains (sort (tree_at sources n)) q → Contains (in_all_trees sort sources) q
  mentioned_somewhere sources n q h = found_in (entries sources) n q (subst (λ o. Contains (sort (option_and_then tree_of o)) q) (get-entries sources n) h)
