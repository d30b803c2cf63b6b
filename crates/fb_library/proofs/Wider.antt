-- Shelves that make room for a name have the same entries.
use Rattle.std.proofs.Common.{◌≡◌, ℕ, zero, suc, ◌<◌, true, false, ◌||◌, List, [], ◌∷◌, ◌++◌, length, take, drop, get_or, set, refl, sym, ap, ◌∙◌, arith, append_assoc}
use Rattle.std.proofs.{lemmas.Bool.{or_left, or_right}, lemmas.List.{take-append-drop, length-map}, lemmas.List.Elements.{All-from_recursion, All-get_or}}
use Rattle.std.proofs.lemmas.Map.Keys.{Less-from_sorted}
use Rattle.std.specs.{List.{AllByRecursion, insert, remove}, List.Sorted.{IsStrictlySortedBy}, Ordering.{is_le}, declared.cmp.Ordering.TheVariants.{Less}}
use Rattle.fb_parse.specs.Text.Order.{name_cmp}
use Rattle.fb_parse.proofs.Text.Tests.{or_cases}
use Rattle.fb_library.specs.Shelves.{names_of, lasts_of, all_on, AreShelves, reaches}
use Rattle.fb_library.proofs.{Names.{name_total}, OnShelves.{Row, last_at, entries_at, le_lt, lt_le, le_self, each, all_append, all_left, all_right, shelf_before}}

module _ {V : Type 0} where
  all_lasts : (P : List ℕ → Type 0) (ss : List (Row V)) (i : ℕ) (s : Row V) → AllByRecursion P (lasts_of ss) → P s.0 → AllByRecursion P (lasts_of (set ss i s))
  all_lasts P [] i s all p = tt
  all_lasts P (t ∷ ss) zero s all p = (p, all.1)
  all_lasts P (t ∷ ss) (suc i) s all p = (all.0, all_lasts P ss i s all.1 p)

  -- other shelves with the same entries, which reach the name
  pub record IsExtended (n : List ℕ) (old news : List (Row V)) : Type 0 where
    pub order : AreShelves news
    pub same : all_on news ≡ all_on old
    pub room : reaches (lasts_of news) n ≡ true

  -- ---- a last shelf that ends at a greater name

  abbrev pub ended_at : List (Row V) → ℕ → List ℕ → List (Row V)
  ended_at ss i n = set ss i (n, entries_at ss i)

  pub all_ended : (ss : List (Row V)) (i : ℕ) (n : List ℕ) → all_on (ended_at ss i n) ≡ all_on ss
  all_ended [] i n = refl
  all_ended (s ∷ ss) zero n = refl
  all_ended (s ∷ ss) (suc i) n = ap (λ l. s.1 ++ l) (all_ended ss i n)

  pub reaches_ended : (ss : List (Row V)) (i : ℕ) (n : List ℕ) → i < length ss → reaches (lasts_of (ended_at ss i n)) n ≡ true
  reaches_ended [] i n lt = absurd (omega (arith, lt))
  reaches_ended (s ∷ ss) zero n lt = or_left (is_le (name_cmp n n)) (reaches (lasts_of ss) n) (le_self n)
  reaches_ended (s ∷ ss) (suc i) n lt = or_right (is_le (name_cmp n s.0)) (reaches (lasts_of (ended_at ss i n)) n) (reaches_ended ss i n (omega (arith, lt)))

  pub shelves_ended : (ss : List (Row V)) (i : ℕ) (n : List ℕ) → suc i ≡ length ss → AreShelves ss → AllByRecursion (λ m. name_cmp m n ≡ Less) (lasts_of ss) → AreShelves (ended_at ss i n)
  shelves_ended [] i n end are past = absurd (omega (arith, end))
  shelves_ended (s ∷ []) zero n end are past = (
    record {
      sorted = are.0.sorted;
      within = each (λ m. is_le (name_cmp m s.0) ≡ true) (λ m. is_le (name_cmp m n) ≡ true) (λ m le. ap is_le (le_lt m s.0 n le past.0)) (names_of s.1) are.0.within;
      before = tt;
      rising = tt;
    },
    tt,
  )
  shelves_ended (s ∷ t ∷ ss) zero n end are past = absurd (omega (arith, end))
  shelves_ended (s ∷ ss) (suc i) n end are past = (
    shelf_before are.0 (rw (all_ended ss i n) are.0.before) (all_lasts (λ m. name_cmp s.0 m ≡ Less) ss i (n, entries_at ss i) are.0.rising past.0),
    shelves_ended ss i n (omega (arith, end)) are.1 past.1,
  )

  -- ---- a shelf more, which is empty

  abbrev pub one_more : List (Row V) → List ℕ → List (Row V)
  one_more ss n = ss ++ (n, []) ∷ []

  pub all_more : (ss : List (Row V)) (n : List ℕ) → all_on (one_more ss n) ≡ all_on ss
  all_more [] n = refl
  all_more (s ∷ ss) n = ap (λ l. s.1 ++ l) (all_more ss n)

  pub reaches_more : (ss : List (Row V)) (n : List ℕ) → reaches (lasts_of (one_more ss n)) n ≡ true
  reaches_more [] n = or_left (is_le (name_cmp n n)) false (le_self n)
  reaches_more (s ∷ ss) n = or_right (is_le (name_cmp n s.0)) (reaches (lasts_of (one_more ss n)) n) (reaches_more ss n)

  rising_more : (P : List ℕ → Type 0) (ss : List (Row V)) (n : List ℕ) → AllByRecursion P (lasts_of ss) → P n → AllByRecursion P (lasts_of (one_more ss n))
  rising_more P [] n all p = (p, tt)
  rising_more P (s ∷ ss) n all p = (all.0, rising_more P ss n all.1 p)

  pub shelves_more : (ss : List (Row V)) (n : List ℕ) → AreShelves ss → AllByRecursion (λ m. name_cmp m n ≡ Less) (lasts_of ss) → AreShelves (one_more ss n)
  unfolding IsStrictlySortedBy
  shelves_more [] n are past = (record { sorted = tt; within = tt; before = tt; rising = tt }, tt)
  shelves_more (s ∷ ss) n are past = (
    shelf_before are.0 (rw (all_more ss n) are.0.before) (rising_more (λ m. name_cmp s.0 m ≡ Less) ss n are.0.rising past.0),
    shelves_more ss n are.1 past.1,
  )

  -- ---- a shelf in two

  abbrev name_at : List (List ℕ × V) → ℕ → List ℕ
  name_at es k = get_or (names_of es) k []

  taken : (P : List ℕ → Type 0) (es : List (List ℕ × V)) (k : ℕ) → AllByRecursion P (names_of es) → AllByRecursion P (names_of (take k es))
  taken P es k all = all_left P (take k es) (drop k es) (rw (take-append-drop k es) all)

  dropped : (P : List ℕ → Type 0) (es : List (List ℕ × V)) (k : ℕ) → AllByRecursion P (names_of es) → AllByRecursion P (names_of (drop k es))
  dropped P es k all = all_right P (take k es) (drop k es) (rw (take-append-drop k es) all)

  named : (P : List ℕ → Type 0) (es : List (List ℕ × V)) (k : ℕ) → k < length es → AllByRecursion P (names_of es) → P (name_at es k)
  named P es k lt all = All-get_or P (names_of es) k [] (omega (arith, lt, length-map es (λ e. e.0))) (All-from_recursion P (names_of es) all)

  sorted_parts : (xs ys : List (List ℕ × V)) → IsStrictlySortedBy name_cmp (names_of (xs ++ ys)) → IsStrictlySortedBy name_cmp (names_of xs) × IsStrictlySortedBy name_cmp (names_of ys)
  unfolding IsStrictlySortedBy
  sorted_parts [] ys s = (tt, s)
  sorted_parts (x ∷ xs) ys s = let rest = sorted_parts xs ys s.1 in ((all_left (λ m. name_cmp x.0 m ≡ Less) xs ys s.0, rest.0), rest.1)

  pub sorted_low : (es : List (List ℕ × V)) (k : ℕ) → IsStrictlySortedBy name_cmp (names_of es) → IsStrictlySortedBy name_cmp (names_of (take k es))
  sorted_low es k s = (sorted_parts (take k es) (drop k es) (rw (take-append-drop k es) s)).0

  pub sorted_high : (es : List (List ℕ × V)) (k : ℕ) → IsStrictlySortedBy name_cmp (names_of es) → IsStrictlySortedBy name_cmp (names_of (drop k es))
  sorted_high es k s = (sorted_parts (take k es) (drop k es) (rw (take-append-drop k es) s)).1

  -- the names up to k are not greater than the k-th, and the others are
  up_to : (es : List (List ℕ × V)) (k : ℕ) → k < length es → IsStrictlySortedBy name_cmp (names_of es) → AllByRecursion (λ m. is_le (name_cmp m (name_at es k)) ≡ true) (names_of (take (suc k) es))
  unfolding IsStrictlySortedBy
  up_to [] k lt s = absurd (omega (arith, lt))
  up_to (e ∷ es) zero lt s = (le_self e.0, taken (λ m. is_le (name_cmp m e.0) ≡ true) [] 0 tt)
  up_to (e ∷ es) (suc k) lt s = (ap is_le (named (λ m. name_cmp e.0 m ≡ Less) es k (omega (arith, lt)) s.0), up_to es k (omega (arith, lt)) s.1)

  from_on : (es : List (List ℕ × V)) (k : ℕ) → k < length es → IsStrictlySortedBy name_cmp (names_of es) → AllByRecursion (λ m. name_cmp (name_at es k) m ≡ Less) (names_of (drop (suc k) es))
  unfolding IsStrictlySortedBy
  from_on [] k lt s = absurd (omega (arith, lt))
  from_on (e ∷ es) zero lt s = s.0
  from_on (e ∷ es) (suc k) lt s = from_on es k (omega (arith, lt)) s.1

  -- where a shelf goes on past its k-th name, that name is less than its last
  pub less_than_last : (es : List (List ℕ × V)) (last : List ℕ) (k : ℕ) → suc k < length es → IsStrictlySortedBy name_cmp (names_of es) → AllByRecursion (λ m. is_le (name_cmp m last) ≡ true) (names_of es) → name_cmp (name_at es k) last ≡ Less
  less_than_last es last k lt sorted within =
      lt_le (name_at es k) (name_at es (suc k)) last (Less-from_sorted name_cmp (names_of es) k (suc k) [] sorted (omega arith) (omega (arith, lt, length-map es (λ e. e.0))))
      (named (λ m. is_le (name_cmp m last) ≡ true) es (suc k) lt within)

  -- other shelves with the same entries, which reach as far
  pub record IsWider (old news : List (Row V)) : Type 0 where
    pub order : AreShelves news
    pub same : all_on news ≡ all_on old
    pub room : (n : List ℕ) → reaches (lasts_of old) n ≡ true → reaches (lasts_of news) n ≡ true

  abbrev pub in_two : List (Row V) → ℕ → ℕ → List (Row V)
  in_two ss i k = set (insert ss i (get_or (names_of (entries_at ss i)) k [], take (suc k) (entries_at ss i))) (suc i) (last_at ss i, drop (suc k) (entries_at ss i))

  pub all_in_two : (ss : List (Row V)) (i k : ℕ) → i < length ss → all_on (in_two ss i k) ≡ all_on ss
  all_in_two [] i k lt = absurd (omega (arith, lt))
  all_in_two (s ∷ ss) zero k lt = sym (append_assoc (take (suc k) s.1) (drop (suc k) s.1) (all_on ss)) ∙ ap (λ l. l ++ all_on ss) (take-append-drop (suc k) s.1)
  all_in_two (s ∷ ss) (suc i) k lt = ap (λ l. s.1 ++ l) (all_in_two ss i k (omega (arith, lt)))

  pub reaches_in_two : (ss : List (Row V)) (i k : ℕ) (n : List ℕ) → i < length ss → reaches (lasts_of ss) n ≡ true → reaches (lasts_of (in_two ss i k)) n ≡ true
  reaches_in_two [] i k n lt e = absurd (omega (arith, lt))
  reaches_in_two (s ∷ ss) zero k n lt e = or_right (is_le (name_cmp n (name_at s.1 k))) (is_le (name_cmp n s.0) || reaches (lasts_of ss) n) e
  reaches_in_two (s ∷ ss) (suc i) k n lt e =
      or_cases (is_le (name_cmp n s.0)) (reaches (lasts_of ss) n) e (λ l. or_left (is_le (name_cmp n s.0)) _ l) (λ r. or_right (is_le (name_cmp n s.0)) _ (reaches_in_two ss i k n (omega (arith, lt)) r))

  rising_in_two : (P : List ℕ → Type 0) (ss : List (Row V)) (i k : ℕ) → i < length ss → k < length (entries_at ss i) → AllByRecursion P (lasts_of ss) → AllByRecursion P (names_of (all_on ss)) → AllByRecursion P (lasts_of (in_two ss i k))
  rising_in_two P [] i k lt some lasts all = absurd (omega (arith, lt))
  rising_in_two P (s ∷ ss) zero k lt some lasts all = (named P s.1 k some (all_left P s.1 (all_on ss) all), lasts)
  rising_in_two P (s ∷ ss) (suc i) k lt some lasts all = (lasts.0, rising_in_two P ss i k (omega (arith, lt)) some lasts.1 (all_right P s.1 (all_on ss) all))

  pub shelves_in_two : (ss : List (Row V)) (i k : ℕ) → i < length ss → suc k < length (entries_at ss i) → AreShelves ss → AreShelves (in_two ss i k)
  shelves_in_two [] i k lt some are = absurd (omega (arith, lt))
  shelves_in_two (s ∷ ss) zero k lt some are =
      let less = less_than_last s.1 s.0 k some are.0.sorted are.0.within in
      let above = each (λ m. name_cmp s.0 m ≡ Less) (λ m. name_cmp (name_at s.1 k) m ≡ Less) (λ m more. name_total.trans (name_at s.1 k) s.0 m less more) in (
        record {
          sorted = sorted_low s.1 (suc k) are.0.sorted;
          within = up_to s.1 k (omega (arith, some)) are.0.sorted;
          before = all_append (λ m. name_cmp (name_at s.1 k) m ≡ Less) (drop (suc k) s.1) (all_on ss) (from_on s.1 k (omega (arith, some)) are.0.sorted) (above (names_of (all_on ss)) are.0.before);
          rising = (less, above (lasts_of ss) are.0.rising);
        },
        (
          record {
            sorted = sorted_high s.1 (suc k) are.0.sorted;
            within = dropped (λ m. is_le (name_cmp m s.0) ≡ true) s.1 (suc k) are.0.within;
            before = are.0.before;
            rising = are.0.rising;
          },
          are.1,
        ),
      )
  shelves_in_two (s ∷ ss) (suc i) k lt some are = (
    shelf_before are.0 (rw (all_in_two ss i k (omega (arith, lt))) are.0.before)
        (rising_in_two (λ m. name_cmp s.0 m ≡ Less) ss i k (omega (arith, lt)) (omega (arith, some)) are.0.rising are.0.before),
    shelves_in_two ss i k (omega (arith, lt)) some are.1,
  )

  -- ---- without a shelf that is empty

  pub all_without : (ss : List (Row V)) (i : ℕ) → entries_at ss i ≡ [] → all_on (remove ss i) ≡ all_on ss
  all_without [] zero e = refl
  all_without [] (suc i) e = refl
  all_without (s ∷ ss) zero e = ap (λ es. es ++ all_on ss) (sym e)
  all_without (s ∷ ss) (suc i) e = ap (λ l. s.1 ++ l) (all_without ss i e)

  lasts_without : (P : List ℕ → Type 0) (ss : List (Row V)) (i : ℕ) → AllByRecursion P (lasts_of ss) → AllByRecursion P (lasts_of (remove ss i))
  lasts_without P [] zero all = tt
  lasts_without P [] (suc i) all = tt
  lasts_without P (s ∷ ss) zero all = all.1
  lasts_without P (s ∷ ss) (suc i) all = (all.0, lasts_without P ss i all.1)

  pub shelves_without : (ss : List (Row V)) (i : ℕ) → entries_at ss i ≡ [] → AreShelves ss → AreShelves (remove ss i)
  shelves_without [] zero e are = tt
  shelves_without [] (suc i) e are = tt
  shelves_without (s ∷ ss) zero e are = are.1
  shelves_without (s ∷ ss) (suc i) e are = (
    shelf_before are.0 (rw (all_without ss i e) are.0.before) (lasts_without (λ m. name_cmp s.0 m ≡ Less) ss i are.0.rising),
    shelves_without ss i e are.1,
  )
