-- Names are ordered as the numbers that their bytes spell, eight at a time.
use Rattle.std.proofs.Common.{◌≡◌, ℕ, ◌+◌, ◌-◌, ◌*◌, ◌%◌, ◌<◌, ◌≤◌, ◌≢◌, true, List, [], ◌∷◌, ◌++◌, length, get_or, take, drop, replicate, zero, suc, nat_cmp, Ordering, Less, Equal, Greater, sym, refl, ap, subst, ◌∙◌, ⊎_elim, arith, Fits, w8, take-append-drop, drop-drop, length-take-le, get_or-take, get_or-drop, length-drop, drop_of_length-le}
use Rattle.std.specs.{Cmp.{nat_cmp_is}, Cmp.Lexicographic.{nat_list_cmp_total, slice_cmp}, Ordering.{ordering_then}, Slice.Scan.{big_endian}, List.{list_all}}
use Rattle.std.proofs.{lemmas.Bool.{and_parts, cases_lt, cases_order}, lemmas.Bool.Decides.{nat_tests}, lemmas.Cmp.{tied_itself}, lemmas.List.{drop-replicate}}
use Rattle.fb_text.specs.{Bytes.{is_word_byte}, Stored.{IsStoredIn}}
use Rattle.fb_text.proofs.NameLemmas.{is_word-all, is_word-ascii}

abbrev cmp_bytes : List ℕ → List ℕ → Ordering
cmp_bytes = slice_cmp nat_cmp

abbrev AreBytes : List ℕ → Type 0
AreBytes xs = (k : ℕ) → Fits w8 (get_or xs k 0)

-- a lesser number in front stays less with further bytes
rises : (n a b : ℕ) (xs ys : List ℕ) → n ≤ length xs → n ≤ length ys → AreBytes xs → a < b → big_endian a (take n xs) < big_endian b (take n ys)
rises zero a b xs ys p q h l = l
rises (suc n) a b [] ys p q h l = absurd (omega arith)
rises (suc n) a b (x ∷ xs) [] p q h l = absurd (omega arith)
rises (suc n) a b (x ∷ xs) (y ∷ ys) p q h l =
    let small : x < 256 = (h 0).fits in
    rises n (a * 256 + x) (b * 256 + y) xs ys (omega arith) (omega arith) (λ k. h (suc k)) (omega arith)

-- the first n bytes as numbers, and then the other bytes
pub by_number : (n a : ℕ) (xs ys : List ℕ) → n ≤ length xs → n ≤ length ys → AreBytes xs → AreBytes ys
    → cmp_bytes xs ys ≡ ordering_then (nat_cmp (big_endian a (take n xs)) (big_endian a (take n ys))) (cmp_bytes (drop n xs) (drop n ys))
by_number zero a xs ys p q g h = rw (← nat_cmp_is a a Equal refl)
by_number (suc n) a [] ys p q g h = absurd (omega arith)
by_number (suc n) a (x ∷ xs) [] p q g h = absurd (omega arith)
by_number (suc n) a (x ∷ xs) (y ∷ ys) p q g h =
    ⊎_elim (λ (same : x ≡ y). rw (← same, ← nat_cmp_is x x Equal refl) (by_number n (a * 256 + x) xs ys (omega arith) (omega arith) (λ k. g (suc k)) (λ k. h (suc k))))
    (⊎_elim
    (λ (l : x < y). rw (← nat_cmp_is x y Less l, ← nat_cmp_is _ _ Less (rises n (a * 256 + x) (a * 256 + y) xs ys (omega arith) (omega arith) (λ k. g (suc k)) (omega arith))))
    (λ (l : y < x). rw (← nat_cmp_is x y Greater l, ← nat_cmp_is _ _ Greater (rises n (a * 256 + y) (a * 256 + x) ys xs (omega arith) (omega arith) (λ k. h (suc k)) (omega arith)))))
    (cases_order x y)

-- ---- zeros after a name
not_zero : (b : ℕ) → is_word_byte b ≡ true → 0 < b
unfolding is_word_byte
not_zero b h = grind (arith, nat_tests)

padded : (a b : List ℕ) (m n : ℕ) → length a + m ≡ length b + n → list_all is_word_byte a ≡ true → list_all is_word_byte b ≡ true
    → cmp_bytes (a ++ replicate m 0) (b ++ replicate n 0) ≡ cmp_bytes a b
padded [] [] m n e g h =
    let same : m ≡ n = omega (arith, e) in
    ap (λ k. cmp_bytes (replicate m 0) (replicate k 0)) (sym same) ∙ tied_itself nat_list_cmp_total (replicate m 0)
padded [] (y ∷ b) zero n e g h = absurd (omega (arith, e))
padded [] (y ∷ b) (suc m) n e g h = ap (λ r. ordering_then r (cmp_bytes (replicate m 0) (b ++ replicate n 0))) (sym (nat_cmp_is 0 y Less (not_zero y (and_parts _ _ h).0)))
padded (x ∷ a) [] m zero e g h = absurd (omega (arith, e))
padded (x ∷ a) [] m (suc n) e g h = ap (λ r. ordering_then r (cmp_bytes (a ++ replicate m 0) (replicate n 0))) (sym (nat_cmp_is x 0 Greater (not_zero x (and_parts _ _ g).0)))
padded (x ∷ a) (y ∷ b) m n e g h = ap (ordering_then (nat_cmp x y)) (padded a b m n (omega (arith, e)) (and_parts _ _ g).1 (and_parts _ _ h).1)

whole : (bytes : List ℕ) (len : ℕ) → IsStoredIn 64 bytes len → take len bytes ++ replicate (64 - len) 0 ≡ bytes
whole bytes len h = ap (λ xs. take len bytes ++ xs) (sym h.rest) ∙ take-append-drop len bytes

-- names are ordered as all bytes of their fields
as_stored : (xs ys : List ℕ) (m n : ℕ) → IsStoredIn 64 xs m → IsStoredIn 64 ys n → cmp_bytes (take m xs) (take n ys) ≡ cmp_bytes xs ys
as_stored xs ys m n g h =
    sym (padded (take m xs) (take n ys) (64 - m) (64 - n) (omega (arith, length-take-le m xs (omega (arith, g.room, g.within)), length-take-le n ys (omega (arith, h.room, h.within)), g.within, h.within)) (is_word-all _ g.name.word) (is_word-all _ h.name.word))
    ∙ (λ i. cmp_bytes (whole xs m g i) (whole ys n h i))

-- ---- a zero among the bytes
byte_of : (bs : List ℕ) (j : ℕ) → list_all is_word_byte bs ≡ true → j < length bs → 0 < get_or bs j 0
byte_of [] j h l = absurd (omega arith)
byte_of (b ∷ bs) zero h l = not_zero b (and_parts _ _ h).0
byte_of (b ∷ bs) (suc j) h l = byte_of bs j (and_parts _ _ h).1 (omega arith)

zero_of : (n k : ℕ) → get_or (replicate {A = ℕ} n 0) k 0 ≡ 0
zero_of zero k = refl
zero_of (suc n) zero = refl
zero_of (suc n) (suc k) = zero_of n k

-- what a name's field has are bytes
pub are_bytes : (xs : List ℕ) (m : ℕ) → IsStoredIn 64 xs m → AreBytes xs
are_bytes xs m h k =
    ⊎_elim (λ (inside : k < m). record { fits = omega (arith, is_word-ascii _ h.name.word k, get_or-take m xs k 0 inside) }) past (cases_lt k m)
  where
    past : m ≤ k → Fits w8 (get_or xs k 0)
    past l =
        let at : m + (k - m) ≡ k = omega (arith, l) in
        let is_zero : get_or xs k 0 ≡ 0 = ap (λ j. get_or xs j 0) (sym at) ∙ sym (get_or-drop m xs (k - m) 0) ∙ ap (λ ys. get_or ys (k - m) 0) h.rest ∙ zero_of (64 - m) (k - m) in
        record { fits = omega (arith, is_zero) }

-- only zeros are after the name
zeros_from : (xs : List ℕ) (m n : ℕ) → m ≤ n → IsStoredIn 64 xs m → drop n xs ≡ replicate (64 - n) 0
zeros_from xs m n l h = subst (λ k. drop k xs ≡ replicate (64 - k) 0) (omega (arith, l)) (sym (drop-drop (n - m) m xs) ∙ ap (drop (n - m)) h.rest ∙ drop-replicate (n - m) (64 - m) 0 ∙ ap (λ k. replicate k 0) (omega arith))

-- and after a zero
zeros_left : (xs : List ℕ) (m j : ℕ) → IsStoredIn 64 xs m → get_or xs j 0 ≡ 0 → drop (j + 1) xs ≡ replicate (64 - (j + 1)) 0
zeros_left xs m j h z =
    ⊎_elim
    (λ (inside : j < m).
    let some = byte_of (take m xs) j (is_word-all _ h.name.word) (omega (arith, inside, length-take-le m xs (omega (arith, h.room, h.within)))) in
    absurd (omega (arith, some, get_or-take m xs j 0 inside, z)))
    (λ (l : m ≤ j). zeros_from xs m (j + 1) (omega (arith, l)) h)
    (cases_lt j m)

-- the last byte, from the number
last_byte : (n a : ℕ) (xs : List ℕ) → n < length xs → AreBytes xs → big_endian a (take (suc n) xs) % 256 ≡ get_or xs n 0
last_byte n a [] l h = absurd (omega arith)
last_byte zero a (x ∷ xs) l h = let small : x < 256 = (h 0).fits in omega (arith, small)
last_byte (suc n) a (x ∷ xs) l h = last_byte n (a * 256 + x) xs (omega arith) (λ k. h (suc k))

-- ---- the order from the bytes that are left
decided : (x y : ℕ) (o : Ordering) → x ≢ y → nat_cmp x y ≡ ordering_then (nat_cmp x y) o
decided x y o differ = grind (arith, nat_tests)

-- where the bytes before i are equal
abbrev pub IsLeft : List ℕ → List ℕ → List ℕ → List ℕ → ℕ → Type 0
IsLeft a b xs ys i = cmp_bytes a b ≡ cmp_bytes (drop i xs) (drop i ys)

pub all_left : (a b xs ys : List ℕ) (m n : ℕ) → take m xs ≡ a → take n ys ≡ b → IsStoredIn 64 xs m → IsStoredIn 64 ys n → IsLeft a b xs ys 0
all_left a b xs ys m n p q g h = (λ i. cmp_bytes (sym p i) (sym q i)) ∙ as_stored xs ys m n g h

ends : (xs : List ℕ) (m i x : ℕ) → IsStoredIn 64 xs m → i + 8 ≤ 64 → x ≡ big_endian 0 (take 8 (drop i xs)) → x % 256 ≡ 0 → drop (i + 8) xs ≡ replicate (64 - (i + 8)) 0
ends xs m i x h le p z =
    let last : get_or xs (i + 7) 0 ≡ 0 = sym (get_or-drop i xs 7 0)
    ∙ sym (last_byte 7 0 (drop i xs) (omega (arith, length-drop i xs, h.room, le)) (λ k. subst (Fits w8) (sym (get_or-drop i xs k 0)) (are_bytes xs m h (i + k)))) ∙ ap (λ n. n % 256) (sym p) ∙ z in
    let next : i + 7 + 1 ≡ i + 8 = omega arith in
    subst (λ n. drop n xs ≡ replicate (64 - n) 0) next (zeros_left xs m (i + 7) h last)

module _ (a b xs ys : List ℕ) (m n i x y : ℕ) (g : IsStoredIn 64 xs m) (h : IsStoredIn 64 ys n) (le : i + 8 ≤ 64) (left : IsLeft a b xs ys i)
    (p : x ≡ big_endian 0 (take 8 (drop i xs))) (q : y ≡ big_endian 0 (take 8 (drop i ys))) where
  -- the words and then the bytes after them
  step : cmp_bytes a b ≡ ordering_then (nat_cmp x y) (cmp_bytes (drop (i + 8) xs) (drop (i + 8) ys))
  step =
      left
      ∙ by_number 8 0 (drop i xs) (drop i ys) (omega (arith, length-drop i xs, g.room, le)) (omega (arith, length-drop i ys, h.room, le))
      (λ k. subst (Fits w8) (sym (get_or-drop i xs k 0)) (are_bytes xs m g (i + k))) (λ k. subst (Fits w8) (sym (get_or-drop i ys k 0)) (are_bytes ys n h (i + k)))
      ∙ (λ j. ordering_then (nat_cmp (sym p j) (sym q j)) (cmp_bytes (drop-drop 8 i xs j) (drop-drop 8 i ys j)))

  pub unequal_words : x ≢ y → nat_cmp x y ≡ cmp_bytes a b
  unequal_words differ = decided x y _ differ ∙ sym step

  pub equal_words : x ≡ y → IsLeft a b xs ys (i + 8)
  equal_words e = step ∙ ap (λ r. ordering_then r (cmp_bytes (drop (i + 8) xs) (drop (i + 8) ys))) (sym (nat_cmp_is x y Equal e))

  -- equal words that end with a zero are the last ones
  pub last_words : x ≡ y → x % 256 ≡ 0 → Equal ≡ cmp_bytes a b
  last_words e z =
      sym (equal_words e ∙ (λ j. cmp_bytes (ends xs m i x g le p z j) (ends ys n i y h le q (ap (λ w. w % 256) (sym e) ∙ z) j)) ∙ tied_itself nat_list_cmp_total (replicate (64 - (i + 8)) 0))

-- all words are equal
pub none_left : (a b xs ys : List ℕ) (i : ℕ) → length xs ≤ i → length ys ≤ i → IsLeft a b xs ys i → Equal ≡ cmp_bytes a b
none_left a b xs ys i p q left = sym (left ∙ (λ j. cmp_bytes (drop_of_length-le xs p j) (drop_of_length-le ys q j)))
