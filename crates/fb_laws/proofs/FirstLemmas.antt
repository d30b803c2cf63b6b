-- The first declarations of their names, by places.
use Rattle.fb_laws.proofs.Common.{◌≡◌, ◌≢◌, zero, suc, ℕ, ◌+◌, ◌<◌, Bool, true, ◌&&◌, List, [], ◌∷◌, length, map, take, Some, None, refl, ap, ◌∙◌, sym, subst, inl, inr, arith, filter, enumerate_from, slice_get, slice_get_within, cases_order, and_parts, first_ones, is_same, stands_for, same_exact, same_itself, at_place, in_places, contains_filter, contains_map, got_in_map, origin_in_map, passes_in_filter, stands_for-first_ones, is_none, Contains, place_from_lookup, slice_get_read}
use Rattle.std.proofs.{lemmas.Option.{get_or_from_slice_get}, lemmas.List.FromFn.{get_or-enumerate_from, length-enumerate_from}, lemmas.List.Kept.{AllPairs-filter}}

-- numbered items that pass come in the order of their numbers

numbers_rise : {X : Type 0} (passes : ℕ × X → Bool) (xs : List X) (i j : ℕ) (p q : ℕ × X) → i < j → slice_get (filter passes (enumerate_from 0 xs)) i ≡ Some p → slice_get (filter passes (enumerate_from 0 xs)) j ≡ Some q → p.0 < q.0
numbers_rise {X = X} passes xs i j p q before first second =
    let placed = filter passes (enumerate_from 0 xs) in
    let less = AllPairs-filter (λ (a b : ℕ × X). a.0 < b.0) passes (enumerate_from 0 xs) (grind (arith, get_or-enumerate_from, length-enumerate_from)) i j p before (slice_get_within placed j q second) in
    omega (arith, less, ap (λ (a : ℕ × X). a.0) (get_or_from_slice_get placed i p p first), ap (λ (a : ℕ × X). a.0) (get_or_from_slice_get placed j q p second))

pub got_among : {X : Type 0} (xs : List X) (k : ℕ) (x : X) → slice_get xs k ≡ Some x → Contains xs x
got_among xs k x e = (k, slice_get_within xs k x e, get_or_from_slice_get xs k x x e)

pub at_contained : {X : Type 0} (xs : List X) (x : X) (c : Contains xs x) → slice_get xs c.0 ≡ Some x
at_contained xs x c = slice_get_read xs (length xs) c.0 x refl c.1 (sym c.2)

-- first declarations

module _ {D : Type 0} where
  -- no declaration before the place has the name
  abbrev pub NoneBefore : List (List ℕ × D) → ℕ → List ℕ → Type 0
  NoneBefore xs place name = (k : ℕ) (y : List ℕ × D) → k < place → slice_get xs k ≡ Some y → y.0 ≢ name

  none_before : (xs : List (List ℕ × D)) (place : ℕ) (name : List ℕ) → stands_for (take place xs) name ≡ None → NoneBefore xs place name
  none_before [] place name e k y lt there = absurd (let no : ⊥ = cc in no)
  none_before (x ∷ xs) zero name e k y lt there = absurd (omega arith)
  none_before (x ∷ xs) (suc place) name e k y lt there = grind (arith, same_itself, none_before xs place name)

  before_none : (xs : List (List ℕ × D)) (place : ℕ) (name : List ℕ) → NoneBefore xs place name → stands_for (take place xs) name ≡ None
  before_none (x ∷ xs) (suc place) name h =
      let later = before_none xs place name (λ k y lt there. h (suc k) y (omega arith) there) in
      let differs : x.0 ≢ name = h 0 x (omega arith) refl in
      grind (arith, same_exact)
  before_none [] (suc place) name h = refl
  before_none xs zero name h = refl

  -- the first declaration of the name
  pub record IsFirst (xs : List (List ℕ × D)) (name : List ℕ) (meaning : D) : Type 0 where
    pub place : ℕ
    pub there : slice_get xs place ≡ Some (name, meaning)
    pub first : NoneBefore xs place name

  abbrev is_first : List (List ℕ × D) → ℕ × (List ℕ × D) → Bool
  is_first xs p = is_none (stands_for (take p.0 xs) p.1.0)

  first_facts : (xs : List (List ℕ × D)) (p : ℕ × (List ℕ × D)) → Contains (enumerate_from 0 xs) p → is_first xs p ≡ true → (slice_get xs p.0 ≡ Some p.1) × NoneBefore xs p.0 p.1.0
  first_facts xs p c passes = let j = in_places 0 xs p c in grind (arith, none_before)

  abbrev first_at : (xs : List (List ℕ × D)) (name : List ℕ) (m : D) (p : ℕ × (List ℕ × D)) → Contains (enumerate_from 0 xs) p → is_first xs p ≡ true → p.1 ≡ (name, m) → IsFirst xs name m
  first_at xs name m p c passes e =
      let facts = first_facts xs p c passes in
      record { place = p.0; there = facts.0 ∙ ap Some e; first = subst (λ (n : List ℕ). NoneBefore xs p.0 n) (ap (λ (x : List ℕ × D). x.0) e) facts.1 }

  -- the first declaration of a name is among the first ones
  among_first_ones : (xs : List (List ℕ × D)) (name : List ℕ) (m : D) → IsFirst xs name m → Contains (first_ones xs) (name, m)
  among_first_ones xs name m o =
      let start : 0 + o.place ≡ o.place = omega arith in
      let listed = subst (λ (k : ℕ). Contains (enumerate_from 0 xs) (k, (name, m))) start (at_place 0 xs o.place (name, m) o.there) in
      contains_map (λ (p : ℕ × (List ℕ × D)). p.1) (filter (is_first xs) (enumerate_from 0 xs)) (o.place, (name, m)) (contains_filter (is_first xs) (enumerate_from 0 xs) (o.place, (name, m)) listed (ap is_none (before_none xs o.place name o.first)))

  -- what a name means among the first declarations
  pub stands_first : (xs : List (List ℕ × D)) (name : List ℕ) (m : D) → stands_for (first_ones xs) name ≡ Some m → IsFirst xs name m
  stands_first xs name m e =
      let o = place_from_lookup (λ declared. is_same declared name) (first_ones xs) m e in
      let placed = filter (is_first xs) (enumerate_from 0 xs) in
      let p = got_in_map (λ (q : ℕ × (List ℕ × D)). q.1) placed o.0 (o.1, m) o.2 in
      let passed = passes_in_filter (is_first xs) (enumerate_from 0 xs) p.0 (got_among placed o.0 p.0 p.1) in
      first_at xs name m p.0 passed.among passed.passes (p.2 ∙ (λ i. (same_exact o.1 name o.3 i, m)))

  stands_at : (xs : List (List ℕ × D)) (place : ℕ) (name : List ℕ) (m : D) → slice_get xs place ≡ Some (name, m) → NoneBefore xs place name → stands_for xs name ≡ Some m
  stands_at [] place name m e none = absurd (let no : ⊥ = cc in no)
  stands_at (x ∷ xs) zero name m e none = grind (arith, same_itself)
  stands_at (x ∷ xs) (suc place) name m e none =
      let later = stands_at xs place name m e (λ k y less there. none (suc k) y (omega arith) there) in
      let differs : x.0 ≢ name = none 0 x (omega arith) refl in
      grind (arith, same_exact)

  pub first_stands : (xs : List (List ℕ × D)) (name : List ℕ) (m : D) → IsFirst xs name m → stands_for (first_ones xs) name ≡ Some m
  first_stands xs name m o = stands_for-first_ones xs name ∙ stands_at xs o.place name m o.there o.first

-- the first declarations of which some are kept, as ports
module _ {D T : Type 0} (keep : D → Bool) (give : D → T) where
  abbrev named : List ℕ × D → List ℕ × T
  named x = (x.0, give x.1)

  abbrev is_kept : List ℕ × D → Bool
  is_kept x = keep x.1

  abbrev pub ports : List (List ℕ × D) → List (List ℕ × T)
  ports xs = map (λ x. (x.0, give x.1)) (filter (λ x. keep x.1) (first_ones xs))

  -- the declaration that gives the port
  pub record IsPort (xs : List (List ℕ × D)) (name : List ℕ) (type : T) : Type 0 where
    pub meaning : D
    pub origin : IsFirst xs name meaning
    pub kept : keep meaning ≡ true
    pub gives : give meaning ≡ type

  -- two ports, that which is declared first before the other
  pub record AreInTurn (xs : List (List ℕ × D)) (one other : List ℕ × T) : Type 0 where
    pub first : IsPort xs one.0 one.1
    pub second : IsPort xs other.0 other.1
    pub earlier : first.origin.place < second.origin.place

  -- the numbered declarations that give ports
  abbrev placed : List (List ℕ × D) → List (ℕ × (List ℕ × D))
  placed xs = filter (λ p. is_first xs p && keep p.1.1) (enumerate_from 0 xs)

  kept_of : (test : ℕ × (List ℕ × D) → Bool) (ps : List (ℕ × (List ℕ × D))) → map named (filter is_kept (map (λ p. p.1) (filter test ps))) ≡ map (λ p. named p.1) (filter (λ p. test p && keep p.1.1) ps)
  kept_of test [] = refl
  kept_of test (p ∷ ps) = grind (arith, kept_of test ps)

  abbrev port_at : (xs : List (List ℕ × D)) (port : List ℕ × T) (p : ℕ × (List ℕ × D)) → Contains (placed xs) p → named p.1 ≡ port → IsPort xs port.0 port.1
  port_at xs port p c e =
      let passed = passes_in_filter (λ (p : ℕ × (List ℕ × D)). is_first xs p && keep p.1.1) (enumerate_from 0 xs) p c in
      let both = and_parts (is_first xs p) (keep p.1.1) passed.passes in
      record { meaning = p.1.1; origin = first_at xs port.0 p.1.1 p passed.among both.0 (λ i. ((e i).0, p.1.1)); kept = both.1; gives = ap (λ (q : List ℕ × T). q.1) e }

  pub is_port : (xs : List (List ℕ × D)) (name : List ℕ) (type : T) → Contains (ports xs) (name, type) → IsPort xs name type
  is_port xs name type c =
      let o = origin_in_map (λ (p : ℕ × (List ℕ × D)). named p.1) (placed xs) (name, type) (subst (λ (l : List (List ℕ × T)). Contains l (name, type)) (kept_of (is_first xs) (enumerate_from 0 xs)) c) in
      port_at xs (name, type) o.origin o.among o.gives

  pub among_ports : (xs : List (List ℕ × D)) (name : List ℕ) (type : T) → IsPort xs name type → Contains (ports xs) (name, type)
  among_ports xs name type o =
      let listed = among_first_ones xs name o.meaning o.origin in
      let c = contains_map named (filter is_kept (first_ones xs)) (name, o.meaning) (contains_filter is_kept (first_ones xs) (name, o.meaning) listed o.kept) in
      subst (λ (t : T). Contains (ports xs) (name, t)) o.gives c

  port_got : (xs : List (List ℕ × D)) (i : ℕ) (port : List ℕ × T) → slice_get (ports xs) i ≡ Some port → (p : ℕ × (List ℕ × D)) × (slice_get (placed xs) i ≡ Some p) × (named p.1 ≡ port)
  port_got xs i port at = got_in_map (λ (q : ℕ × (List ℕ × D)). named q.1) (placed xs) i port (subst (λ (l : List (List ℕ × T)). slice_get l i ≡ Some port) (kept_of (is_first xs) (enumerate_from 0 xs)) at)

  pub in_turn : (xs : List (List ℕ × D)) (i j : ℕ) (one other : List ℕ × T) → i < j → slice_get (ports xs) i ≡ Some one → slice_get (ports xs) j ≡ Some other → AreInTurn xs one other
  in_turn xs i j one other before at_one at_other =
      let p = port_got xs i one at_one in
      let q = port_got xs j other at_other in
      record {
        first = port_at xs one p.0 (got_among (placed xs) i p.0 p.1) p.2;
        second = port_at xs other q.0 (got_among (placed xs) j q.0 q.1) q.2;
        earlier = numbers_rise (λ (p : ℕ × (List ℕ × D)). is_first xs p && keep p.1.1) xs i j p.0 q.0 before p.1 q.1;
      }

  not_twice : (xs : List (List ℕ × D)) (one other : List ℕ × T) → AreInTurn xs one other → one.0 ≢ other.0
  not_twice xs one other t same = t.second.origin.first t.first.origin.place (one.0, t.first.meaning) t.earlier t.first.origin.there same

  pub once : (xs : List (List ℕ × D)) (i j : ℕ) (one other : List ℕ × T) → slice_get (ports xs) i ≡ Some one → slice_get (ports xs) j ≡ Some other → one.0 ≡ other.0 → i ≡ j
  once xs i j one other at_one at_other same =
      elim (cases_order i j) [ inl e ↦ e | inr (inl h) ↦ absurd (not_twice xs one other (in_turn xs i j one other h at_one at_other) same) | inr (inr h) ↦ absurd (not_twice xs other one (in_turn xs j i other one h at_other at_one) (sym same)) ]
