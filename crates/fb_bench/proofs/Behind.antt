-- Units behind a name, among units by rising name.
use Rattle.std.proofs.Common.{◌≡◌, ℕ, zero, suc, ◌+◌, ◌-◌, ◌<◌, ◌≤◌, ◌∙◌, Bool, false, true, List, [], ◌∷◌, ◌++◌, Option, None, Some, ap, arith, drop, filter, get_or, inl, inr, length, map, min, option_map, refl, slice_get, subst, sym, take}
use Rattle.std.proofs.{lemmas.Bool.{cases_lt}, lemmas.List.{get_or-drop, get_or-map, length-drop, length-map, map-append, take_all, take_more}, lemmas.Map.Keys.{Less-from_sorted}, lemmas.Option.{slice_get-get_or, slice_get-map, slice_get_cases}}
use Rattle.std.specs.{Ordering.{is_lt}, List.Sorted.{IsStrictlySortedBy}, declared.cmp.Ordering.{Ordering}, declared.cmp.Ordering.TheVariants.{Less, Equal, Greater}}
use Rattle.fb_text.specs.Order.{name_cmp}
use Rattle.fb_entries.specs.Library.Texts.{Held, Texts, held, names_of}
use Rattle.fb_entries.proofs.Library.{Names.{name_total}, Places.{lookup_at}}
use Rattle.fb_history.specs.Reads.{behind_at, is_behind}

less_of : (o : Ordering) → is_lt o ≡ true → o ≡ Less
less_of Less is = refl
less_of Equal is = absurd cc
less_of Greater is = absurd cc

-- a unit that comes later is behind the name too
behind_later : (name : List ℕ) (texts : Texts) (i j : ℕ) → IsStrictlySortedBy name_cmp (names_of texts) → i < j → j < length texts → behind_at name texts i ≡ true → behind_at name texts j ≡ true
behind_later name texts i j sorted before within behind =
    let below = Less-from_sorted name_cmp (names_of texts) i j [] sorted before (omega (arith, within, length-map texts (λ e. e.0))) in
    rw (name_total.trans name _ _ (less_of _ behind) below) refl

pub behind_from : (name : List ℕ) (texts : Texts) (i : ℕ) → IsStrictlySortedBy name_cmp (names_of texts) → behind_at name texts i ≡ true → (j : ℕ) → i ≤ j → j < length texts → behind_at name texts j ≡ true
behind_from name texts i sorted behind j le within = elim (cases_lt i j) [
  | inl before ↦ behind_later name texts i j sorted before within behind
  | inr after ↦ let same : i ≡ j = omega (arith, le, after) in subst (λ k. behind_at name texts k ≡ true) same behind
]

not_true : (b : Bool) → (b ≡ true → ⊥) → b ≡ false
not_true true refuted = absurd (refuted refl)
not_true false refuted = refl

pub none_up_to : (name : List ℕ) (texts : Texts) (i : ℕ) → IsStrictlySortedBy name_cmp (names_of texts) → i < length texts → behind_at name texts i ≡ false → (j : ℕ) → j < i + 1 → j < length texts → behind_at name texts j ≡ false
none_up_to name texts i sorted within not j lt inside =
    not_true (behind_at name texts j) (λ behind. let other = behind_from name texts j sorted behind i (omega (arith, lt)) within in absurd cc)

-- the first units are not behind the name, and the others are
pub drop_behind : (name : List ℕ) (texts : Texts) (k : ℕ) → ((j : ℕ) → j < k → j < length texts → behind_at name texts j ≡ false) → ((j : ℕ) → k ≤ j → j < length texts → behind_at name texts j ≡ true) → drop k texts ≡ filter (is_behind name) texts
drop_behind name [] zero below above = refl
drop_behind name [] (suc k) below above = refl
drop_behind name (e ∷ es) zero below above =
    rw (above 0 (omega arith) (omega arith)) (ap (λ l. e ∷ l) (drop_behind name es zero (λ j lt within. absurd (omega (arith, lt))) (λ j le within. above (suc j) (omega arith) (omega (arith, within)))))
drop_behind name (e ∷ es) (suc k) below above =
    rw (below 0 (omega arith) (omega arith)) (drop_behind name es k (λ j lt within. below (suc j) (omega (arith, lt)) (omega (arith, within))) (λ j le within. above (suc j) (omega (arith, le)) (omega (arith, within))))

-- a unit at a place, which is held under its name
pub record UnitAt (texts : Texts) (place : ℕ) : Type 0 where
  pub unit : List ℕ × Held
  pub there : slice_get texts place ≡ Some unit
  pub named : slice_get (names_of texts) place ≡ Some unit.0
  pub holds : held texts unit.0 ≡ Some unit.1

pub unit_at : (texts : Texts) (place : ℕ) → IsStrictlySortedBy name_cmp (names_of texts) → place < length texts → UnitAt texts place
unit_at [] place sorted within = absurd (omega (arith, within))
unit_at (e ∷ es) place sorted within =
    let unit : List ℕ × Held = get_or (e ∷ es) place e in
    let there : slice_get (e ∷ es) place ≡ Some unit = slice_get-get_or (e ∷ es) place e within in
    let named : get_or (names_of (e ∷ es)) place [] ≡ unit.0 = get_or-map (λ f. f.0) (e ∷ es) place e [] within in
    record {
      unit = unit;
      there = there;
      named = slice_get-map (λ f. f.0) (e ∷ es) place ∙ ap (option_map (λ f. f.0)) there;
      holds = lookup_at (e ∷ es) unit.0 place e sorted (record { in_range = omega (arith, within, length-map (e ∷ es) (λ f. f.0)); named = named });
    }

-- ---- parts of a list

pub map_more : {X Y : Type 0} (f : X → Y) (xs : List X) (a i : ℕ) (y : Y) → a ≤ i → i < length xs → Some y ≡ option_map f (slice_get xs i)
    → map f (take (i + 1 - a) (drop a xs)) ≡ map f (take (i - a) (drop a xs)) ++ y ∷ []
map_more f xs a i y from within is = elim (slice_get_cases xs i).1 [
  | inl here ↦
      let x = here.0 in
      let count : i + 1 - a ≡ i - a + 1 = omega (arith, from) in
      let more = take_more (drop a xs) (i - a) x (omega (arith, from, within, length-drop a xs)) in
      let place : a + (i - a) ≡ i = omega (arith, from) in
      let item : get_or (drop a xs) (i - a) x ≡ x = get_or-drop a xs (i - a) x ∙ ap (λ k. get_or xs k x) place ∙ here.3 in
      let made : Some y ≡ Some (f x) = is ∙ ap (option_map f) here.2 in
      let same : y ≡ f x = cc in
      ap (λ k. map f (take k (drop a xs))) count ∙ ap (map f) (more ∙ ap (λ z. take (i - a) (drop a xs) ++ z ∷ []) item)
      ∙ map-append f (take (i - a) (drop a xs)) (x ∷ []) ∙ ap (λ z. map f (take (i - a) (drop a xs)) ++ z ∷ []) (sym same)
  | inr past ↦ absurd (omega (arith, within, past.0))
]

-- at most n items
pub take_at_most : {X : Type 0} (xs : List X) (n count : ℕ) → count ≡ min (length xs) n → take count xs ≡ take n xs
take_at_most xs n count is = elim (cases_lt n (length xs)) [
  | inl few ↦ let same : count ≡ n = omega (arith, is, few) in ap (λ k. take k xs) same
  | inr all ↦
      let same : count ≡ length xs = omega (arith, is, all) in
      ap (λ k. take k xs) same ∙ take_all (length xs) xs (omega arith) ∙ sym (take_all n xs all)
]
