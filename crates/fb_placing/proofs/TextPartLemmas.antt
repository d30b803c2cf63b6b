-- Texts in parts, byte by byte.
use Rattle.std.proofs.Common.{ℕ, zero, suc, ◌≡◌, Bool, true, false, ◌<◌, ◌≤◌, ◌+◌, List, [], ◌∷◌, ◌++◌, Some, length, get_or, take, drop, refl, sym, ap, ◌∙◌, arith, add-one, append-nil}
use Rattle.std.proofs.{Math.Seq.{drop-cons, take-suc}, lemmas.Grind.{flat_map-append}, lemmas.List.{take_all}}
use Rattle.std.specs.{Prelude.{not, slice_get}, Str.{bytes_eq}, Cmp.Lexicographic.{same_text}, Borrow.{Bor}}
use Rattle.fb_placing.specs.TextParts.{joined}

byte_here : (xs ys : List ℕ) (k d : ℕ) → k < length xs → slice_get (xs ++ ys) k ≡ Some (get_or xs k d)
byte_here [] ys k d lt = absurd (omega (arith, lt))
byte_here (x ∷ xs) ys zero d lt = refl
byte_here (x ∷ xs) ys (suc k) d lt = byte_here xs ys k d (omega (arith, lt))

byte_behind : (xs ys : List ℕ) (k j : ℕ) → k ≡ length xs + j → slice_get (xs ++ ys) k ≡ slice_get ys j
byte_behind [] ys k j e = ap (slice_get ys) (omega (arith, e))
byte_behind (x ∷ xs) ys zero j e = absurd (omega (arith, e))
byte_behind (x ∷ xs) ys (suc k) j e = byte_behind xs ys k j (omega (arith, e))

-- what stands where there is no part
abbrev pub no_part : Bor (List ℕ)
no_part = record { ref_ptr = (0, 0); now = [] }

abbrev pub part_text : List (Bor (List ℕ)) → ℕ → List ℕ
part_text parts i = (get_or parts i no_part).now

-- what is left of the parts, at a part
parts_left : (parts : List (Bor (List ℕ))) (i : ℕ) → i < length parts → joined (drop i parts) ≡ part_text parts i ++ joined (drop (i + 1) parts)
parts_left parts i lt = ap joined (drop-cons parts i no_part lt) ∙ ap (λ (n : ℕ). part_text parts i ++ joined (drop n parts)) (sym (add-one i))

-- a byte of the part
pub part_here : (parts : List (Bor (List ℕ))) (i k d : ℕ) → i < length parts → k < length (part_text parts i) → slice_get (joined (drop i parts)) k ≡ Some (get_or (part_text parts i) k d)
part_here parts i k d lt within = ap (λ (t : List ℕ). slice_get t k) (parts_left parts i lt) ∙ byte_here (part_text parts i) (joined (drop (i + 1) parts)) k d within

-- a byte behind the part
pub part_behind : (parts : List (Bor (List ℕ))) (i k j : ℕ) → i < length parts → k ≡ length (part_text parts i) + j → slice_get (joined (drop i parts)) k ≡ slice_get (joined (drop (i + 1) parts)) j
part_behind parts i k j lt behind = ap (λ (t : List ℕ). slice_get t k) (parts_left parts i lt) ∙ byte_behind (part_text parts i) (joined (drop (i + 1) parts)) k j behind

-- one part more
pub joined_more : (parts : List (Bor (List ℕ))) (i : ℕ) → i < length parts → joined (take (i + 1) parts) ≡ joined (take i parts) ++ part_text parts i
joined_more parts i lt =
    ap (λ (n : ℕ). joined (take n parts)) (add-one i) ∙ ap joined (take-suc parts i no_part lt)
    ∙ flat_map-append (λ (q : Bor (List ℕ)). q.now) (take i parts) (get_or parts i no_part ∷ [])
    ∙ ap (λ (t : List ℕ). joined (take i parts) ++ t) (append-nil (part_text parts i))

-- all parts
pub joined_all : (parts : List (Bor (List ℕ))) (i : ℕ) → length parts ≤ i → joined (take i parts) ≡ joined parts
joined_all parts i past = ap joined (take_all i parts past)

some_same : {X : Type 0} (a b : X) → Some a ≡ Some b → a ≡ b
some_same a b e = cc

-- lists of one length with the same items
pub same_by_items : {X : Type 0} (xs ys : List X) → length xs ≡ length ys → ((k : ℕ) → k < length xs → slice_get xs k ≡ slice_get ys k) → xs ≡ ys
same_by_items [] [] long same = refl
same_by_items [] (y ∷ ys) long same = absurd (omega (arith, long))
same_by_items (x ∷ xs) [] long same = absurd (omega (arith, long))
same_by_items (x ∷ xs) (y ∷ ys) long same =
    λ i. some_same x y (same 0 (omega (arith))) i ∷ same_by_items xs ys (omega (arith, long)) (λ k lt. same (suc k) (omega (arith, lt))) i

-- texts that are not told apart are one
pub same_unless : (xs ys : List ℕ) (b : Bool) → b ≡ not (bytes_eq xs ys) → b ≡ false → xs ≡ ys
same_unless xs ys b e f = by_test (bytes_eq xs ys) refl
  where
    by_test : (t : Bool) → bytes_eq xs ys ≡ t → xs ≡ ys
    by_test true h = same_text xs ys (sym h)
    by_test false h = absurd (let no : true ≡ false = sym (e ∙ ap not h) ∙ f in cc)
