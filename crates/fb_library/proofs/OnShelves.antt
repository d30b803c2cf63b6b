-- Shelves of entries: what is done at a name is done on one shelf.
use Rattle.std.proofs.Common.{◌≡◌, ℕ, zero, suc, ◌-◌, ◌<◌, ◌≤◌, true, false, inl, inr, List, [], ◌∷◌, ◌++◌, length, get_or, set, refl, sym, ap, subst, ◌∙◌, arith}
use Rattle.std.proofs.{lemmas.Bool.{cases_lt, false≢true, or_left, or_right}, lemmas.Cmp.{tied_itself}, lemmas.Map.Keys.{Less-from_sorted}}
use Rattle.std.proofs.{lemmas.List.Elements.{All-from_recursion, recursion_from_All}, lemmas.Map.Views.{All-keys-insert_entry}}
use Rattle.std.specs.{List.{AllByRecursion}, List.Sorted.{IsStrictlySortedBy}, Map.{lookup, remove_entry}, BTreeMap.{is_at, insert_entry}}
use Rattle.std.specs.{Ordering.{is_le, is_lt}, declared.cmp.Ordering.TheVariants.{Less}}
use Rattle.fb_parse.specs.Text.Order.{name_cmp}
use Rattle.fb_library.specs.{Place.{IsAt, IsGapFor}, Shelves.{names_of, lasts_of, all_on, IsShelf, AreShelves, IsShelfFor, reaches}}
use Rattle.fb_library.proofs.Appended.{AllBelow, AllAbove, lookup_behind, lookup_before, put_behind, put_before, remove_behind, remove_before}
use Rattle.fb_library.proofs.{Names.{name_total, exact_name, by_order}, Places.{greater, less, all_removed, sorted_put, sorted_removed}}

-- ---- the order of names

pub le_lt : (x y z : List ℕ) → is_le (name_cmp x y) ≡ true → name_cmp y z ≡ Less → name_cmp x z ≡ Less
le_lt x y z le lt = by_order (name_cmp x y) (λ l. name_total.trans x y z l lt) (λ e. rw (exact_name x y e) lt) (λ g. absurd (false≢true (rw g at le)))

pub lt_le : (x y z : List ℕ) → name_cmp x y ≡ Less → is_le (name_cmp y z) ≡ true → name_cmp x z ≡ Less
lt_le x y z lt le = by_order (name_cmp y z) (λ l. name_total.trans x y z lt l) (λ e. rw (← exact_name y z e) lt) (λ g. absurd (false≢true (rw g at le)))

pub le_self : (n : List ℕ) → is_le (name_cmp n n) ≡ true
le_self n = ap is_le (tied_itself name_total n)

pub not_below : (x n : List ℕ) → is_lt (name_cmp x n) ≡ false → is_le (name_cmp n x) ≡ true
not_below x n e = by_order (name_cmp x n) (λ l. absurd (false≢true (sym (rw l at e)))) (λ q. rw (exact_name x n q) (le_self n)) (λ g. ap is_le (less x n g))

pub is_below : (x n : List ℕ) → is_lt (name_cmp x n) ≡ true → name_cmp x n ≡ Less
is_below x n e = by_order (name_cmp x n) (λ l. l) (λ q. absurd (false≢true (rw q at e))) (λ g. absurd (false≢true (rw g at e)))

pub each : {A : Type 0} (P Q : A → Type 0) → ((x : A) → P x → Q x) → (xs : List A) → AllByRecursion P xs → AllByRecursion Q xs
each P Q f [] all = tt
each P Q f (x ∷ xs) all = (f x all.0, each P Q f xs all.1)

-- ---- the shelf for a name

pub for_at : (lasts : List (List ℕ)) (n : List ℕ) (i : ℕ) → IsStrictlySortedBy name_cmp lasts → IsAt lasts n i → IsShelfFor lasts n i
for_at lasts n i sorted is = record {
  in_range = omega (arith, is.in_range);
  below = λ j lt. subst (λ m. name_cmp (get_or lasts j []) m ≡ Less) is.named (Less-from_sorted name_cmp lasts j i [] sorted lt is.in_range);
  here = λ lt. ap (λ m. is_le (name_cmp n m)) is.named ∙ le_self n;
}

pub for_gap : (lasts : List (List ℕ)) (n : List ℕ) (i : ℕ) → IsGapFor lasts n i → IsShelfFor lasts n i
for_gap lasts n i gap = record { in_range = gap.in_range; below = gap.below; here = λ lt. ap is_le (gap.above i (omega arith) lt) }

-- the shelf before it ends below the name, and it does not
pub for_next : (lasts : List (List ℕ)) (n : List ℕ) (i : ℕ) → IsStrictlySortedBy name_cmp lasts → i < length lasts → is_le (name_cmp n (get_or lasts i [])) ≡ true → ((j : ℕ) → suc j ≡ i → name_cmp (get_or lasts j []) n ≡ Less) → IsShelfFor lasts n i
for_next lasts n i sorted within up_to above = record {
  in_range = omega (arith, within);
  below = λ j lt. elim (cases_lt (suc j) i) [
    | inl further ↦
        let k = i - 1 in
        name_total.trans (get_or lasts j []) (get_or lasts k []) n (Less-from_sorted name_cmp lasts j k [] sorted (omega arith) (omega arith)) (above k (omega arith))
    | inr last ↦ above j (omega arith)
  ];
  here = λ lt. up_to;
}

for_tail : (last : List ℕ) (lasts : List (List ℕ)) (n : List ℕ) (i : ℕ) → IsShelfFor (last ∷ lasts) n (suc i) → IsShelfFor lasts n i
for_tail last lasts n i is = record {
  in_range = omega (arith, is.in_range);
  below = λ j lt. is.below (suc j) (omega arith);
  here = λ lt. is.here (omega arith);
}

-- a name that is reached has a shelf
pub for_reached : (lasts : List (List ℕ)) (n : List ℕ) (i : ℕ) → IsShelfFor lasts n i → reaches lasts n ≡ true → i < length lasts
for_reached [] n i is e = absurd (false≢true e)
for_reached (last ∷ lasts) n zero is e = omega arith
for_reached (last ∷ lasts) n (suc i) is e =
    let rest = for_reached lasts n i (for_tail last lasts n i is) (rw (greater last n (is.below 0 (omega arith))) at e) in
    omega (arith, rest)

pub reached_for : (lasts : List (List ℕ)) (n : List ℕ) (i : ℕ) → IsShelfFor lasts n i → i < length lasts → reaches lasts n ≡ true
reached_for [] n i is lt = absurd (omega (arith, lt))
reached_for (last ∷ lasts) n zero is lt = or_left (is_le (name_cmp n last)) (reaches lasts n) (is.here (omega arith))
reached_for (last ∷ lasts) n (suc i) is lt = or_right (is_le (name_cmp n last)) (reaches lasts n) (reached_for lasts n i (for_tail last lasts n i is) (omega (arith, lt)))

pub passed : (lasts : List (List ℕ)) (n : List ℕ) (i : ℕ) → IsShelfFor lasts n i → length lasts ≤ i → AllByRecursion (λ m. name_cmp m n ≡ Less) lasts
passed [] n i is le = tt
passed (last ∷ lasts) n zero is le = absurd (omega (arith, le))
passed (last ∷ lasts) n (suc i) is le = (is.below 0 (omega arith), passed lasts n i (for_tail last lasts n i is) (omega (arith, le)))

abbrev pub Row : Type 0 → Type 0
Row V = List ℕ × List (List ℕ × V)

module _ {V : Type 0} where
  abbrev pub last_at : List (Row V) → ℕ → List ℕ
  last_at ss i = (get_or ss i ([], [])).0

  abbrev pub entries_at : List (Row V) → ℕ → List (List ℕ × V)
  entries_at ss i = (get_or ss i ([], [])).1

  pub below_shelf : (s : Row V) (ss : List (Row V)) (n : List ℕ) → IsShelf s ss → name_cmp s.0 n ≡ Less → AllBelow n s.1
  below_shelf s ss n is lt = each (λ m. is_le (name_cmp m s.0) ≡ true) (λ m. name_cmp m n ≡ Less) (λ m le. le_lt m s.0 n le lt) (names_of s.1) is.within

  above_later : (s : Row V) (ss : List (Row V)) (n : List ℕ) → IsShelf s ss → is_le (name_cmp n s.0) ≡ true → AllAbove n (all_on ss)
  above_later s ss n is le = each (λ m. name_cmp s.0 m ≡ Less) (λ m. name_cmp n m ≡ Less) (λ m lt. le_lt n s.0 m le lt) (names_of (all_on ss)) is.before

  -- the last names rise
  pub lasts_sorted : (ss : List (Row V)) → AreShelves ss → IsStrictlySortedBy name_cmp (lasts_of ss)
  unfolding IsStrictlySortedBy
  lasts_sorted [] are = tt
  lasts_sorted (s ∷ ss) are = (are.0.rising, lasts_sorted ss are.1)

  pub all_append : (P : List ℕ → Type 0) (xs ys : List (List ℕ × V)) → AllByRecursion P (names_of xs) → AllByRecursion P (names_of ys) → AllByRecursion P (names_of (xs ++ ys))
  all_append P [] ys a b = b
  all_append P (x ∷ xs) ys a b = (a.0, all_append P xs ys a.1 b)

  pub all_left : (P : List ℕ → Type 0) (xs ys : List (List ℕ × V)) → AllByRecursion P (names_of (xs ++ ys)) → AllByRecursion P (names_of xs)
  all_left P [] ys a = tt
  all_left P (x ∷ xs) ys a = (a.0, all_left P xs ys a.1)

  pub all_right : (P : List ℕ → Type 0) (xs ys : List (List ℕ × V)) → AllByRecursion P (names_of (xs ++ ys)) → AllByRecursion P (names_of ys)
  all_right P [] ys a = a
  all_right P (x ∷ xs) ys a = all_right P xs ys a.1

  sorted_at : (ss : List (Row V)) (i : ℕ) → AreShelves ss → IsStrictlySortedBy name_cmp (names_of (entries_at ss i))
  unfolding IsStrictlySortedBy
  sorted_at [] i are = tt
  sorted_at (s ∷ ss) zero are = are.0.sorted
  sorted_at (s ∷ ss) (suc i) are = sorted_at ss i are.1

  -- a shelf before other shelves
  pub shelf_before : {s : Row V} {ss ts : List (Row V)} → IsShelf s ss → AllAbove s.0 (all_on ts) → AllByRecursion (λ m. name_cmp s.0 m ≡ Less) (lasts_of ts) → IsShelf s ts
  shelf_before is before rising = record { sorted = is.sorted; within = is.within; before = before; rising = rising }

  -- ---- one shelf

  pub lookup_on : (ss : List (Row V)) (n : List ℕ) (i : ℕ) → AreShelves ss → IsShelfFor (lasts_of ss) n i → lookup (is_at (name_cmp n)) (all_on ss) ≡ lookup (is_at (name_cmp n)) (entries_at ss i)
  lookup_on [] n i are is = refl
  lookup_on (s ∷ ss) n zero are is = lookup_before n s.1 (all_on ss) (above_later s ss n are.0 (is.here (omega arith)))
  lookup_on (s ∷ ss) n (suc i) are is =
      lookup_behind n s.1 (all_on ss) (below_shelf s ss n are.0 (is.below 0 (omega arith))) ∙ lookup_on ss n i are.1 (for_tail s.0 (lasts_of ss) n i is)

  abbrev pub with_entries : List (Row V) → ℕ → List (List ℕ × V) → List (Row V)
  with_entries ss i es = set ss i (last_at ss i, es)

  pub put_on : (ss : List (Row V)) (n : List ℕ) (v : V) (i : ℕ) → i < length ss → AreShelves ss → IsShelfFor (lasts_of ss) n i → all_on (with_entries ss i (insert_entry name_cmp (entries_at ss i) n v)) ≡ insert_entry name_cmp (all_on ss) n v
  put_on [] n v i lt are is = absurd (omega (arith, lt))
  put_on (s ∷ ss) n v zero lt are is = sym (put_before n v s.1 (all_on ss) (above_later s ss n are.0 (is.here (omega arith))))
  put_on (s ∷ ss) n v (suc i) lt are is =
      ap (λ l. s.1 ++ l) (put_on ss n v i (omega (arith, lt)) are.1 (for_tail s.0 (lasts_of ss) n i is)) ∙ sym (put_behind n v s.1 (all_on ss) (below_shelf s ss n are.0 (is.below 0 (omega arith))))

  pub remove_on : (ss : List (Row V)) (n : List ℕ) (i : ℕ) → i < length ss → AreShelves ss → IsShelfFor (lasts_of ss) n i → all_on (with_entries ss i (remove_entry (is_at (name_cmp n)) (entries_at ss i))) ≡ remove_entry (is_at (name_cmp n)) (all_on ss)
  remove_on [] n i lt are is = absurd (omega (arith, lt))
  remove_on (s ∷ ss) n zero lt are is = sym (remove_before n s.1 (all_on ss) (above_later s ss n are.0 (is.here (omega arith))))
  remove_on (s ∷ ss) n (suc i) lt are is =
      ap (λ l. s.1 ++ l) (remove_on ss n i (omega (arith, lt)) are.1 (for_tail s.0 (lasts_of ss) n i is)) ∙ sym (remove_behind n s.1 (all_on ss) (below_shelf s ss n are.0 (is.below 0 (omega arith))))

  -- ---- shelves stay in order

  all_at : (P : List ℕ → Type 0) (ss : List (Row V)) (i : ℕ) → AllByRecursion P (names_of (all_on ss)) → AllByRecursion P (names_of (entries_at ss i))
  all_at P [] i all = tt
  all_at P (s ∷ ss) zero all = all_left P s.1 (all_on ss) all
  all_at P (s ∷ ss) (suc i) all = all_at P ss i (all_right P s.1 (all_on ss) all)

  all_set : (P : List ℕ → Type 0) (ss : List (Row V)) (i : ℕ) (s : Row V) → AllByRecursion P (names_of (all_on ss)) → AllByRecursion P (names_of s.1) → AllByRecursion P (names_of (all_on (set ss i s)))
  all_set P [] i s all these = tt
  all_set P (t ∷ ss) zero s all these = all_append P s.1 (all_on ss) these (all_right P t.1 (all_on ss) all)
  all_set P (t ∷ ss) (suc i) s all these =
      all_append P t.1 (all_on (set ss i s)) (all_left P t.1 (all_on ss) all) (all_set P ss i s (all_right P t.1 (all_on ss) all) these)

  lasts_with : (ss : List (Row V)) (i : ℕ) (es : List (List ℕ × V)) → lasts_of (with_entries ss i es) ≡ lasts_of ss
  lasts_with [] i es = refl
  lasts_with (s ∷ ss) zero es = refl
  lasts_with (s ∷ ss) (suc i) es = ap (λ l. s.0 ∷ l) (lasts_with ss i es)

  -- what the names on the shelf have in common with the name, the new entries have too
  abbrev pub Keeps : List ℕ → List (List ℕ × V) → List (List ℕ × V) → Type 1
  Keeps n es news = (P : List ℕ → Type 0) → P n → AllByRecursion P (names_of es) → AllByRecursion P (names_of news)

  pub shelves_with : (ss : List (Row V)) (n : List ℕ) (i : ℕ) (news : List (List ℕ × V)) → i < length ss → AreShelves ss → IsShelfFor (lasts_of ss) n i → IsStrictlySortedBy name_cmp (names_of news) → Keeps n (entries_at ss i) news → AreShelves (with_entries ss i news)
  shelves_with [] n i news lt are is sorted keeps = absurd (omega (arith, lt))
  shelves_with (s ∷ ss) n zero news lt are is sorted keeps = (
    record {
      sorted = sorted;
      within = keeps (λ m. is_le (name_cmp m s.0) ≡ true) (is.here (omega arith)) are.0.within;
      before = are.0.before;
      rising = are.0.rising;
    },
    are.1,
  )
  shelves_with (s ∷ ss) n (suc i) news lt are is sorted keeps =
      let P : List ℕ → Type 0 = λ m. name_cmp s.0 m ≡ Less in (
        shelf_before are.0 (all_set P ss i (last_at ss i, news) are.0.before (keeps P (is.below 0 (omega arith)) (all_at P ss i are.0.before))) (rw (lasts_with ss i news) are.0.rising),
        shelves_with ss n i news (omega (arith, lt)) are.1 (for_tail s.0 (lasts_of ss) n i is) sorted keeps,
      )

  keeps_put : (n : List ℕ) (v : V) (es : List (List ℕ × V)) → Keeps n es (insert_entry name_cmp es n v)
  keeps_put n v es P p all = recursion_from_All P _ (All-keys-insert_entry name_cmp n v P es (All-from_recursion P (names_of es) all) p)

  pub shelves_put : (ss : List (Row V)) (n : List ℕ) (v : V) (i : ℕ) → i < length ss → AreShelves ss → IsShelfFor (lasts_of ss) n i → AreShelves (with_entries ss i (insert_entry name_cmp (entries_at ss i) n v))
  shelves_put ss n v i lt are is =
      shelves_with ss n i (insert_entry name_cmp (entries_at ss i) n v) lt are is (sorted_put (entries_at ss i) n v (sorted_at ss i are)) (keeps_put n v (entries_at ss i))

  pub shelves_removed : (ss : List (Row V)) (n : List ℕ) (i : ℕ) → i < length ss → AreShelves ss → IsShelfFor (lasts_of ss) n i → AreShelves (with_entries ss i (remove_entry (is_at (name_cmp n)) (entries_at ss i)))
  shelves_removed ss n i lt are is =
      let test = is_at (name_cmp n) in
      shelves_with ss n i (remove_entry test (entries_at ss i)) lt are is (sorted_removed test (entries_at ss i) (sorted_at ss i are)) (λ P p all. all_removed P test (entries_at ss i) all)
