-- The places of a table, seen as entries.
use Rattle.std.proofs.Common.{◌≡◌, ℕ, suc, ◌<◌, List, [], ◌∷◌, length, map, take, drop, get_or, set, sym, ap, ◌∙◌, arith, Some}
use Rattle.std.proofs.{lemmas.List.{map-append, map-set, take-map, drop-map, get_or-map, length-map}, lemmas.Option.{slice_get-map}, lemmas.Simd.{map-map}}
use Rattle.std.specs.{List.{insert, remove, slice_get}, Option.{option_map}, List.Sorted.{IsStrictlySortedBy}, Map.{lookup, remove_entry}}
use Rattle.std.specs.BTreeMap.{is_at, insert_entry}
use Rattle.fb_parse.specs.Text.Order.{name_cmp}
use Rattle.fb_library.specs.{Place.{IsAt, IsGapFor}, Entries.{entry_of, entries_of, names_in}, declared.placed.Placed.{Placed}}
use Rattle.fb_library.proofs.Places.{set_at, remove_at, lookup_at, put_in_gap}

module _ {A B : Type 0} (f : A → B) where
  pub map_insert : (xs : List A) (i : ℕ) (x : A) → map f (insert xs i x) ≡ insert (map f xs) i (f x)
  map_insert xs i x = rw (map-append f (take i xs) (x ∷ drop i xs), take-map f i xs, drop-map f i xs)

  pub map_remove : (xs : List A) (i : ℕ) → map f (remove xs i) ≡ remove (map f xs) i
  map_remove xs i = rw (map-append f (take i xs) (drop (suc i) xs), take-map f i xs, drop-map f (suc i) xs)

module _ {V : Type 0} where
  pub places_named : (ps : List (Placed V)) → names_in ps ≡ map (λ (p : Placed V). p.name) ps
  places_named ps = map-map _ _ ps

  pub name_there : (ps : List (Placed V)) (i : ℕ) → slice_get (names_in ps) i ≡ option_map (λ (p : Placed V). p.name) (slice_get ps i)
  name_there ps i = ap (λ ns. slice_get ns i) (places_named ps) ∙ slice_get-map (λ (p : Placed V). p.name) ps i

  pub named_there : (ps : List (Placed V)) (n : List ℕ) (i : ℕ) (p : Placed V) → i < length ps → p ≡ get_or ps i p → p.name ≡ n → IsAt (names_in ps) n i
  named_there ps n i p lt is e = record {
    in_range = omega (arith, lt, ap length (places_named ps), length-map ps (λ (p : Placed V). p.name));
    named = rw (places_named ps) (get_or-map (λ (p : Placed V). p.name) ps i p [] lt ∙ ap (λ (p : Placed V). p.name) (sym is) ∙ e);
  }

  pub value_there : (ps : List (Placed V)) (n : List ℕ) (i : ℕ) (d : Placed V) → IsStrictlySortedBy name_cmp (names_in ps) → IsAt (names_in ps) n i → Some (get_or ps i d).value.value ≡ lookup (is_at (name_cmp n)) (entries_of ps)
  value_there ps n i d sorted is =
      ap (λ (e : List ℕ × V). Some e.1) (sym (get_or-map entry_of ps i d (entry_of d) (omega (arith, is.in_range, length-map (entries_of ps) (λ e. e.0), length-map ps entry_of)))) ∙ sym (lookup_at (entries_of ps) n i (entry_of d) sorted is)

  module _ (ps : List (Placed V)) where
    pub entries_set : (p : Placed V) (i : ℕ) → IsStrictlySortedBy name_cmp (names_in ps) → IsAt (names_in ps) p.name i → entries_of (set ps i p) ≡ insert_entry name_cmp (entries_of ps) p.name p.value.value
    entries_set p i sorted is = map-set entry_of ps i p ∙ set_at (entries_of ps) p.name p.value.value i sorted is

    pub entries_insert : (p : Placed V) (i : ℕ) → IsGapFor (names_in ps) p.name i → entries_of (insert ps i p) ≡ insert_entry name_cmp (entries_of ps) p.name p.value.value
    entries_insert p i gap = map_insert entry_of ps i p ∙ put_in_gap (entries_of ps) p.name p.value.value i gap

    pub entries_remove : (n : List ℕ) (i : ℕ) → IsStrictlySortedBy name_cmp (names_in ps) → IsAt (names_in ps) n i → entries_of (remove ps i) ≡ remove_entry (is_at (name_cmp n)) (entries_of ps)
    entries_remove n i sorted is = map_remove entry_of ps i ∙ remove_at (entries_of ps) n i sorted is
