-- Names at their places in a name space.
use Rattle.std.proofs.Common.{◌≡◌, zero, suc, ℕ, ◌+◌, ◌<◌, Bool, true, false, ◌||◌, List, [], ◌∷◌, length, get_or, take, Some, refl, sym, ap, ◌∙◌, subst, true≢false, ◌⊎◌, inl, inr, arith}
use Rattle.std.proofs.{lemmas.List.{get_or-take, length-take}, lemmas.Option.{get_or_from_slice_get, slice_get_read, slice_get_within}}
use Rattle.std.specs.List.{Contains, enumerate_from, slice_get}
use Rattle.fb_tree.specs.Text.declared.name.NameUse.{NameUse}
use Rattle.fb_iface.specs.Names.{has_name, is_same}
use Rattle.fb_tree.proofs.Text.Members.{contains_cases, contains_here, contains_later, contains_nothing}
use Rattle.fb_iface.proofs.NameLemmas.{named, same_exact}

-- items at their places

pub in_places : {A : Type 0} (n : ℕ) (xs : List A) (placed : ℕ × A) → Contains (enumerate_from n xs) placed → (j : ℕ) × (placed.0 ≡ n + j) × (slice_get xs j ≡ Some placed.1)
in_places n [] placed c = absurd (contains_nothing placed c)
in_places {A = A} n (x ∷ xs) placed c = by (contains_cases (n, x) (enumerate_from (n + 1) xs) placed c) (in_places (n + 1) xs placed)
  where
    by : ((n, x) ≡ placed) ⊎ Contains (enumerate_from (n + 1) xs) placed → (Contains (enumerate_from (n + 1) xs) placed → (j : ℕ) × (placed.0 ≡ (n + 1) + j) × (slice_get xs j ≡ Some placed.1)) → (j : ℕ) × (placed.0 ≡ n + j) × (slice_get (x ∷ xs) j ≡ Some placed.1)
    by (inl e) more = (0, (let here : n ≡ placed.0 = ap (λ (p : ℕ × A). p.0) e in omega arith), ap (λ (p : ℕ × A). Some p.1) e)
    by (inr d) more = let o = more d in (suc o.0, (let at : placed.0 ≡ (n + 1) + o.0 = o.1 in omega arith), o.2)

pub at_place : {A : Type 0} (n : ℕ) (xs : List A) (j : ℕ) (x : A) → slice_get xs j ≡ Some x → Contains (enumerate_from n xs) (n + j, x)
at_place n [] j x e = absurd (let fails : ⊥ = cc in fails)
at_place {A = A} n (y ∷ xs) zero x e =
    let same : y ≡ x = cc in
    let here : n + 0 ≡ n = omega arith in
    subst (λ (p : ℕ × A). Contains ((n, y) ∷ enumerate_from (n + 1) xs) p) (λ i. (sym here i, same i)) (contains_here (n, y) (enumerate_from (n + 1) xs))
at_place {A = A} n (y ∷ xs) (suc j) x e =
    let later : (n + 1) + j ≡ n + suc j = omega arith in
    contains_later (n, y) (enumerate_from (n + 1) xs) _ (subst (λ (k : ℕ). Contains (enumerate_from (n + 1) xs) (k, x)) later (at_place (n + 1) xs j x e))

-- a name among the first of these stands at a place before
pub record IsEarlier (names : List NameUse) (later : ℕ) (name : List ℕ) : Type 0 where
  pub earlier : ℕ
  pub before : earlier < later
  pub first : NameUse
  pub first_at : slice_get names earlier ≡ Some first
  pub same : first.name ≡ name

pub named_among : (names : List NameUse) (q : List ℕ) → has_name names q ≡ true → (n : NameUse) × Contains names n × (n.name ≡ q)
named_among [] q e = absurd (true≢false (sym e))
named_among (x ∷ xs) q e = by (is_same x.name q) refl e (named_among xs q)
  where
    by : (b : Bool) → is_same x.name q ≡ b → (b || has_name xs q) ≡ true → (has_name xs q ≡ true → (n : NameUse) × Contains xs n × (n.name ≡ q)) → (n : NameUse) × Contains (x ∷ xs) n × (n.name ≡ q)
    by true s h more = (x, contains_here x xs, same_exact x.name q s)
    by false s h more = let o = more h in (o.0, contains_later x xs o.0 o.1, o.2)

pub earlier_name : (names : List NameUse) (later : ℕ) (name : List ℕ) → has_name (take later names) name ≡ true → IsEarlier names later name
earlier_name names later name e =
    let n = named_among (take later names) name e in
    let k = n.1.0 in
    let within : k < length (take later names) = n.1.1 in
    let short = length-take later names in
    let before : k < later = omega (arith, within, short) in
    let inside : k < length names = omega (arith, within, short) in
    let here : get_or names k n.0 ≡ n.0 = sym (get_or-take later names k n.0 before) ∙ n.1.2 in
    record { earlier = k; before = before; first = n.0; first_at = slice_get_read names (length names) k n.0 refl inside (sym here); same = n.2 }

pub has_earlier : (names : List NameUse) (later : ℕ) (name : List ℕ) → IsEarlier names later name → has_name (take later names) name ≡ true
has_earlier names later name h =
    let inside : h.earlier < length names = slice_get_within names h.earlier h.first h.first_at in
    let short = length-take later names in
    let before : h.earlier < later = h.before in
    let within : h.earlier < length (take later names) = omega (arith, inside, before, short) in
    let here : get_or (take later names) h.earlier h.first ≡ h.first = get_or-take later names h.earlier h.first before ∙ get_or_from_slice_get names h.earlier h.first h.first h.first_at in
    named (take later names) name h.first (h.earlier, within, here) h.same
