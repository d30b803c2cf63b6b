-- Items that are kept, each of which reads as a shelf.
use Rattle.std.proofs.Common.{◌≡◌, ℕ, suc, ◌+◌, ◌<◌, ◌≤◌, true, List, [], ◌∷◌, ◌++◌, length, map, take, drop, get_or, set, sym, ap, subst, ◌∙◌, arith, Ok, Err}
use Rattle.std.proofs.{lemmas.List.{map-set, get_or-map, map_push, length-map}, lemmas.List.Edits.{get_or-insert_above}, lemmas.Simd.{map-map}}
use Rattle.std.specs.{List.{AllByRecursion, insert, remove}, List.Sorted.{IsStrictlySortedBy, IsBinarySearchResult}, Map.{remove_entry}, BTreeMap.{is_at, insert_entry}, Ordering.{is_le}}
use Rattle.std.specs.declared.cmp.Ordering.TheVariants.{Less}
use Rattle.fb_parse.specs.Text.Order.{name_cmp}
use Rattle.fb_library.specs.Shelves.{names_of, lasts_of, all_on, AreShelves, IsShelfFor, reaches}
use Rattle.fb_library.proofs.EntryLemmas.{map_insert, map_remove}
use Rattle.fb_library.proofs.OnShelves.{Row, last_at, entries_at, with_entries, for_at, for_gap, for_next, for_reached, reached_for, passed, lasts_sorted, put_on, remove_on, shelves_put, shelves_removed}
use Rattle.fb_library.proofs.Wider.{ended_at, all_ended, reaches_ended, shelves_ended, one_more, all_more, reaches_more, shelves_more, IsExtended, IsWider, in_two, all_in_two, reaches_in_two, shelves_in_two, all_without, shelves_without}
use Rattle.fb_library.proofs.Searches.{searched}

module _ {A V : Type 0} (row : A → Row V) where
  abbrev last : A → List ℕ
  last x = (row x).0

  lasts_named : (xs : List A) → lasts_of (map row xs) ≡ map last xs
  lasts_named xs = map-map _ _ xs

  sorted_by_last : (xs : List A) → AreShelves (map row xs) → IsStrictlySortedBy name_cmp (map last xs)
  sorted_by_last xs are = subst (IsStrictlySortedBy name_cmp) (lasts_named xs) (lasts_sorted (map row xs) are)

  pub shelf_found : (xs : List A) (n : List ℕ) (i : ℕ) → AreShelves (map row xs) → i < length xs → IsBinarySearchResult (λ x. name_cmp (row x).0 n) xs (Ok i) → IsShelfFor (lasts_of (map row xs)) n i
  shelf_found xs n i are lt is =
      rw (lasts_named xs) (for_at (map last xs) n i (sorted_by_last xs are) (searched last xs n (Ok i) (sorted_by_last xs are) lt is).found)

  pub shelf_missed : (xs : List A) (n : List ℕ) (i : ℕ) → AreShelves (map row xs) → i ≤ length xs → IsBinarySearchResult (λ x. name_cmp (row x).0 n) xs (Err i) → IsShelfFor (lasts_of (map row xs)) n i
  shelf_missed xs n i are le is =
      rw (lasts_named xs) (for_gap (map last xs) n i (searched last xs n (Err i) (sorted_by_last xs are) le is).absent)

  -- the item before this one ends below the name, and this one does not
  pub shelf_next : (xs : List A) (n : List ℕ) (i : ℕ) (here before : A) → AreShelves (map row xs) → i < length xs → here ≡ get_or xs i here → is_le (name_cmp n (row here).0) ≡ true
      → ((j : ℕ) → suc j ≡ i → (before ≡ get_or xs j before) × (name_cmp (row before).0 n ≡ Less)) → IsShelfFor (lasts_of (map row xs)) n i
  shelf_next xs n i here before are lt there up_to above =
      let named : (j : ℕ) (x : A) → j < length xs → x ≡ get_or xs j x → get_or (map last xs) j [] ≡ last x = λ j x l is. get_or-map last xs j x [] l ∙ ap last (sym is) in
      rw (lasts_named xs)
      (for_next (map last xs) n i (sorted_by_last xs are) (omega (arith, lt, length-map xs last)) (rw (named i here lt there) up_to)
      (λ j e. rw (named j before (omega arith) (above j e).0) (above j e).1))

  counted_lasts : (xs : List A) → length (lasts_of (map row xs)) ≡ length xs
  counted_lasts xs = length-map (map row xs) (λ r. r.0) ∙ length-map xs row

  pub at_reached : (xs : List A) (n : List ℕ) (i : ℕ) → IsShelfFor (lasts_of (map row xs)) n i → reaches (lasts_of (map row xs)) n ≡ true → i < length xs
  at_reached xs n i is e = omega (arith, for_reached (lasts_of (map row xs)) n i is e, counted_lasts xs)

  pub reached_at : (xs : List A) (n : List ℕ) (i : ℕ) → IsShelfFor (lasts_of (map row xs)) n i → i < length xs → reaches (lasts_of (map row xs)) n ≡ true
  reached_at xs n i is lt = reached_for (lasts_of (map row xs)) n i is (omega (arith, lt, counted_lasts xs))

  -- the item that stands at an index, as a row
  pub row_there : (xs : List A) (i : ℕ) (x : A) → i < length xs → x ≡ get_or xs i x → get_or (map row xs) i ([], []) ≡ row x
  row_there xs i x lt is = get_or-map row xs i x ([], []) lt ∙ ap row (sym is)

  -- the item that stands there is `old`, and `now` takes its place
  module _ (xs : List A) (n : List ℕ) (i : ℕ) (old before now : A) (lt : i < length xs) (are : AreShelves (map row xs)) (is : IsShelfFor (lasts_of (map row xs)) n i)
      (stood : old ≡ get_or xs i old) (stood_again : before ≡ get_or xs i before) (last : (row now).0 ≡ (row before).0) where
    same_last : (row now).0 ≡ last_at (map row xs) i
    same_last = last ∙ sym (λ k. (row_there xs i before lt stood_again k).0)

    rows_edited : (edit : List (List ℕ × V) → List (List ℕ × V)) → (row now).1 ≡ edit (row old).1 → map row (set xs i now) ≡ with_entries (map row xs) i (edit (entries_at (map row xs) i))
    rows_edited edit is_edited = map-set row xs i now ∙ (λ j. set (map row xs) i (same_last j, (is_edited ∙ (λ k. edit (sym (row_there xs i old lt stood) k).1)) j))

    pub shelf_put : (v : V) → (row now).1 ≡ insert_entry name_cmp (row old).1 n v → AreShelves (map row (set xs i now))
    shelf_put v put = subst AreShelves (sym (rows_edited (λ es. insert_entry name_cmp es n v) put)) (shelves_put (map row xs) n v i (omega (arith, lt, length-map xs row)) are is)

    pub entries_put : (v : V) → (row now).1 ≡ insert_entry name_cmp (row old).1 n v → all_on (map row (set xs i now)) ≡ insert_entry name_cmp (all_on (map row xs)) n v
    entries_put v put = ap all_on (rows_edited (λ es. insert_entry name_cmp es n v) put) ∙ put_on (map row xs) n v i (omega (arith, lt, length-map xs row)) are is

    pub shelf_removed : (row now).1 ≡ remove_entry (is_at (name_cmp n)) (row old).1 → AreShelves (map row (set xs i now))
    shelf_removed gone = subst AreShelves (sym (rows_edited (remove_entry (is_at (name_cmp n))) gone)) (shelves_removed (map row xs) n i (omega (arith, lt, length-map xs row)) are is)

    pub entries_removed : (row now).1 ≡ remove_entry (is_at (name_cmp n)) (row old).1 → all_on (map row (set xs i now)) ≡ remove_entry (is_at (name_cmp n)) (all_on (map row xs))
    entries_removed gone = ap all_on (rows_edited (remove_entry (is_at (name_cmp n))) gone) ∙ remove_on (map row xs) n i (omega (arith, lt, length-map xs row)) are is

  -- the item at that place has no entries, and is taken out
  module _ (xs : List A) (i : ℕ) (here : A) (lt : i < length xs) (stood : here ≡ get_or xs i here) (empty : (row here).1 ≡ []) where
    nothing_there : entries_at (map row xs) i ≡ []
    nothing_there = (λ j. (row_there xs i here lt stood j).1) ∙ empty

    pub shelf_cleared : AreShelves (map row xs) → AreShelves (map row (remove xs i))
    shelf_cleared are = subst AreShelves (sym (map_remove row xs i)) (shelves_without (map row xs) i nothing_there are)

    pub entries_cleared : all_on (map row (remove xs i)) ≡ all_on (map row xs)
    entries_cleared = ap all_on (map_remove row xs i) ∙ all_without (map row xs) i nothing_there

  -- ---- room for a name

  module _ (xs : List A) (n : List ℕ) (are : AreShelves (map row xs)) (past : IsShelfFor (lasts_of (map row xs)) n (length xs)) where
    all_past : AllByRecursion (λ m. name_cmp m n ≡ Less) (lasts_of (map row xs))
    all_past = passed (lasts_of (map row xs)) n (length xs) past (omega (arith, counted_lasts xs))

    -- the last item ends at the name
    module _ (i : ℕ) (before now : A) (end : suc i ≡ length xs) (stood : before ≡ get_or xs i before) (last : (row now).0 ≡ n) (same : (row now).1 ≡ (row before).1) where
      rows_ended : map row (set xs i now) ≡ ended_at (map row xs) i n
      rows_ended =
          let there = row_there xs i before (omega (arith, end)) stood in
          map-set row xs i now ∙ (λ j. set (map row xs) i (last j, (same ∙ sym (λ k. (there k).1)) j))

      pub ended : IsExtended n (map row xs) (map row (set xs i now))
      ended = record {
        order = subst AreShelves (sym rows_ended) (shelves_ended (map row xs) i n (omega (arith, end, length-map xs row)) are all_past);
        same = ap all_on rows_ended ∙ all_ended (map row xs) i n;
        room = (λ j. reaches (lasts_of (rows_ended j)) n) ∙ reaches_ended (map row xs) i n (omega (arith, end, length-map xs row));
      }

    -- an empty item more, which ends at the name
    module _ (more : List A) (x : A) (pushed : more ≡ xs ++ x ∷ []) (last : (row x).0 ≡ n) (empty : (row x).1 ≡ []) where
      rows_more : map row more ≡ one_more (map row xs) n
      rows_more = ap (map row) pushed ∙ map_push row xs x ∙ (λ j. map row xs ++ (last j, empty j) ∷ [])

      pub more_shelves : IsExtended n (map row xs) (map row more)
      more_shelves = record {
        order = subst AreShelves (sym rows_more) (shelves_more (map row xs) n are all_past);
        same = ap all_on rows_more ∙ all_more (map row xs) n;
        room = (λ j. reaches (lasts_of (rows_more j)) n) ∙ reaches_more (map row xs) n;
      }

  -- an item in two: `low` has the entries of `old` up to the k-th and ends at its name, and `high` has the others
  module _ (xs more : List A) (i j k : ℕ) (old low before high : A) (lt : i < length xs) (next : j ≡ suc i) (some : suc k < length (row old).1)
      (stood : old ≡ get_or xs i old) (inserted : more ≡ insert xs i low) (stood_again : before ≡ get_or more j before) (last : (row high).0 ≡ (row before).0)
      (ends : (row low).0 ≡ get_or (names_of (row old).1) k []) (lower : (row low).1 ≡ take (suc k) (row old).1) (upper : (row high).1 ≡ drop (suc k) (row old).1) where
    old_row : get_or (map row xs) i ([], []) ≡ row old
    old_row = row_there xs i old lt stood

    high_last : (row high).0 ≡ last_at (map row xs) i
    high_last =
        let at : j ≡ i + 1 = omega arith in
        last ∙ ap (λ (x : A). (row x).0) (stood_again ∙ (λ m. get_or (inserted m) (at m) before) ∙ get_or-insert_above xs i low before i (omega arith) (omega arith)) ∙ sym (λ m. (get_or-map row xs i before ([], []) lt m).0)

    rows_split : map row (set more j high) ≡ in_two (map row xs) i k
    rows_split =
        map-set row more j high
        ∙ (λ m. set (map row (inserted m)) (next m) (row high))
        ∙ ap (λ rows. set rows (suc i) (row high)) (map_insert row xs i low)
        ∙ (λ m. set (insert (map row xs) i ((ends ∙ (λ h. get_or (names_of (sym old_row h).1) k [])) m, (lower ∙ (λ h. take (suc k) (sym old_row h).1)) m)) (suc i) (high_last m, (upper ∙ (λ h. drop (suc k) (sym old_row h).1)) m))

    pub split_wider : AreShelves (map row xs) → IsWider (map row xs) (map row (set more j high))
    split_wider are =
        let here : i < length (map row xs) = omega (arith, lt, length-map xs row) in
        let long = subst (λ (r : Row V). suc k < length r.1) (sym old_row) some in
        record {
          order = subst AreShelves (sym rows_split) (shelves_in_two (map row xs) i k here long are);
          same = ap all_on rows_split ∙ all_in_two (map row xs) i k here;
          room = λ n e. (λ m. reaches (lasts_of (rows_split m)) n) ∙ reaches_in_two (map row xs) i k n here e;
        }
