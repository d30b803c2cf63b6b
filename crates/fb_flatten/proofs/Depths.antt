-- What rests on no recursive type rests on inner types through fewer depths than there are names.
use Rattle.std.proofs.{Common.{◌≡◌, ℕ, zero, suc, ◌≤◌, Bool, true, false, List, [], ◌∷◌, length, refl, sym, subst, arith}, lemmas.Bool.{false≢true, or_right}}
use Rattle.std.specs.{Prelude.{Contains, ◌↔◌}, List.{list_any}}
use Rattle.fb_types.proofs.{Text.Tests.{by_bool, or_cases}, Library.WalkLemmas.{Contains-has, has-Contains}, StackLemmas.{reaches_more}}
use Rattle.fb_types.proofs.{Text.Members.{contains_here}, Library.SeenLemmas.{same, same_is, one_fewer, some_unseen, all_unseen}, Library.Locality.{part_mention, rests_more}}
use Rattle.fb_types.specs.{Library.View.{Sources, parts_at}, Library.Rests.{Rests, PartRests, on_itself, through_part}}
use Rattle.fb_types.specs.{Library.Seen.{has_name, unseen}, Reaches.{Reaches, directly, onward, IsRecursive}}
use Rattle.fb_flatten.specs.{Far.{far_of, part_far_of}, Nets.{is_recursive}}
use Rattle.fb_flatten.proofs.FarNames.{far_is_all, part_far_is_all}

-- the type holds parts through fewer depths than this
pub data Deep (sources : Sources) : ℕ → List ℕ → Type 0 where
  deep :
      {depth : ℕ} {name : List ℕ} → ((w : List ℕ) → Contains (parts_at sources name) w → Deep sources depth w)
      → Deep sources (suc depth) name

-- ---- recursion

reaches_through : {sources : Sources} {u w v : List ℕ} → Contains (parts_at sources u) w → PartRests sources w v → Reaches sources u v
reaches_through m on_itself = directly m
reaches_through m (through_part k r) = onward m (reaches_through k r)

pub rests_of_reach : {sources : Sources} {u v : List ℕ} → Reaches sources u v → PartRests sources u v
rests_of_reach (directly m) = through_part m on_itself
rests_of_reach (onward m r) = through_part m (rests_of_reach r)

-- a part from which the name is rested on
by_first : {sources : Sources} {u v : List ℕ} → Reaches sources u v → (w : List ℕ) × Contains (parts_at sources u) w × PartRests sources w v
by_first {v = v} (directly m) = (v, m, on_itself)
by_first (onward {w = w} m r) = (w, m, rests_of_reach r)

pub some_of : (p : List ℕ → Bool) (xs : List (List ℕ)) (x : List ℕ) → has_name xs x ≡ true → p x ≡ true → list_any p xs ≡ true
some_of p [] x h t = absurd (false≢true h)
some_of p (y ∷ xs) x h t = or_cases (same x y) (has_name xs x) h (λ s. let is = same_is x y s in grind arith) (λ more. or_right (p y) (list_any p xs) (some_of p xs x more t))

here_name : (x : List ℕ) (xs : List (List ℕ)) → has_name (x ∷ xs) x ≡ true
here_name x xs = has-Contains x (x ∷ xs) (contains_here x xs)

pub some_passes : (p : List ℕ → Bool) (xs : List (List ℕ)) → list_any p xs ≡ true → (name : List ℕ) × (has_name xs name ≡ true) × (p name ≡ true)
some_passes p [] h = absurd (false≢true h)
some_passes p (y ∷ xs) h =
    or_cases (p y) (list_any p xs) h
    (λ t. (y, here_name y xs, t))
    (λ more. let s = some_passes p xs more in (s.0, or_right (same s.0 y) (has_name xs s.0) s.1, s.2))

-- the test of recursion
pub recursive_is : (sources : Sources) (name : List ℕ) → (is_recursive sources name ≡ true) ↔ IsRecursive sources name
recursive_is sources name = (
  λ h.
      let s = some_passes (λ inner. has_name (part_far_of sources inner) name) (parts_at sources name) h in
      reaches_through (Contains-has s.0 (parts_at sources name) s.1) ((part_far_is_all sources s.0 name).0 (Contains-has name (part_far_of sources s.0) s.2)),
  λ r.
      let b = by_first r in
      some_of (λ inner. has_name (part_far_of sources inner) name) (parts_at sources name) b.0 (has-Contains b.0 (parts_at sources name) b.1) (has-Contains name (part_far_of sources b.0) ((part_far_is_all sources b.0 name).1 b.2)),
)

-- ---- depths

module _ (sources : Sources) (names : List (List ℕ)) where
  abbrev IsClosed : Type 0
  IsClosed = (n q : List ℕ) → Contains names n → Contains (parts_at sources n) q → Contains names q

  abbrev AreFinite : Type 0
  AreFinite = (n : List ℕ) → Contains names n → IsRecursive sources n → ⊥

  -- along a path of names of which each reaches the next, no name comes again
  depth_along : (depth : ℕ) (path : List (List ℕ)) (name : List ℕ) → IsClosed → AreFinite → unseen path names ≤ depth → Contains names name → has_name path name ≡ false → ((q : List ℕ) → has_name path q ≡ true → Reaches sources q name) → Deep sources depth name
  depth_along zero path name closed finite le among new reach = let one = some_unseen path names name new (has-Contains name names among) in absurd (omega (arith, one, le))
  depth_along (suc depth) path name closed finite le among new reach =
      deep
      (λ w m.
      depth_along depth (name ∷ path) w closed finite
      (let less = one_fewer path (name ∷ path) name new (here_name name path) (λ q h. or_right (same q name) (has_name path q) h) names (has-Contains name names among) in omega (arith, less, le))
      (closed name w among m)
      (by_bool (has_name (name ∷ path) w)
      (λ t.
      absurd
      (or_cases (same w name) (has_name path w) t
      (λ s. finite name among (directly (subst (Contains (parts_at sources name)) (same_is w name s) m)))
      (λ p. finite w (closed name w among m) (reaches_more (reach w p) m))))
      (λ f. f))
      (λ q h.
      or_cases (same q name) (has_name path q) h
      (λ s. directly (subst (λ n. Contains (parts_at sources n) w) (sym (same_is q name s)) m))
      (λ p. reaches_more (reach q p) m)))

-- what a unit rests on, where none of it reaches itself
pub far_deep : (sources : Sources) (unit : List ℕ) → ((v : List ℕ) → Rests sources unit v → IsRecursive sources v → ⊥) → (name : List ℕ) → Rests sources unit name → Deep sources (length (far_of sources unit)) name
far_deep sources unit finite name r =
    let all = (far_is_all sources unit).1 in
    depth_along sources (far_of sources unit) (length (far_of sources unit)) [] name
    (λ n q c m. (all q).1 (rests_more ((all n).0 c) (part_mention sources n q m)))
    (λ n c rec. finite n ((all n).0 c) rec)
    (all_unseen [] (far_of sources unit))
    ((all name).1 r)
    refl
    (λ q h. absurd (false≢true h))
