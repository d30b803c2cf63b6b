-- The lines of bytes that come in pieces.
use Rattle.std.proofs.Common.{◌≡◌, ◌≢◌, ◌<◌, ◌≤◌, ◌+◌, ℕ, [], ◌∷◌, ◌++◌, ◌==◌, ◌∙◌, Bool, List, ap, arith, cond, false, get_or, length, refl, suc, take, true, zero}
use Rattle.std.proofs.{lemmas.Bool.{Decides.{nat_tests}, false_from_ne_true}, lemmas.List.{take_more}}
use Rattle.memchr.specs.Find.{NoneBefore, Nowhere, Passes, is_byte}
use Rattle.fb_wire.specs.Lines.{IsLine, lines_of, onto_first}

-- the last of the first lines and the first of the others are one line
abbrev pub joined : List (List ℕ) → List (List ℕ) → List (List ℕ)
joined [] ms = ms
joined (l ∷ []) [] = l ∷ []
joined (l ∷ []) (m ∷ ms) = (l ++ m) ∷ ms
joined (l ∷ k ∷ ls) ms = l ∷ joined (k ∷ ls) ms

some_line-onto_first : (b : ℕ) (ls : List (List ℕ)) → onto_first b ls ≢ []
some_line-onto_first b [] e = cc
some_line-onto_first b (l ∷ ls) e = cc

some_line : (bs : List ℕ) → lines_of bs ≢ []
some_line [] e = cc
some_line (b ∷ bs) e = some_line_by b (b == 10) (lines_of bs) e
  where
    some_line_by : (b : ℕ) (t : Bool) (ls : List (List ℕ)) → cond t ([] ∷ ls) (onto_first b ls) ≢ []
    some_line_by b true ls e = cc
    some_line_by b false ls e = some_line-onto_first b ls e

onto_first-joined : (b : ℕ) (ls ms : List (List ℕ)) → onto_first b (joined ls ms) ≡ joined (onto_first b ls) ms
onto_first-joined b [] [] = refl
onto_first-joined b [] (m ∷ ms) = refl
onto_first-joined b (l ∷ []) [] = refl
onto_first-joined b (l ∷ []) (m ∷ ms) = refl
onto_first-joined b (l ∷ k ∷ ls) ms = refl

empty-joined : (ls ms : List (List ℕ)) → ls ≢ [] → [] ∷ joined ls ms ≡ joined ([] ∷ ls) ms
empty-joined [] ms some = absurd (some refl)
empty-joined (l ∷ ls) ms some = refl

joined-by : (b : ℕ) (t : Bool) (ls ms : List (List ℕ)) → ls ≢ [] → cond t ([] ∷ joined ls ms) (onto_first b (joined ls ms)) ≡ joined (cond t ([] ∷ ls) (onto_first b ls)) ms
joined-by b true ls ms some = empty-joined ls ms some
joined-by b false ls ms some = onto_first-joined b ls ms

joined-empty : (ms : List (List ℕ)) → ms ≢ [] → ms ≡ joined ([] ∷ []) ms
joined-empty [] some = absurd (some refl)
joined-empty (m ∷ ms) some = refl

pub lines_of-append : (xs ys : List ℕ) → lines_of (xs ++ ys) ≡ joined (lines_of xs) (lines_of ys)
lines_of-append [] ys = joined-empty (lines_of ys) (some_line ys)
lines_of-append (x ∷ xs) ys = rw (lines_of-append xs ys) (joined-by x (x == 10) (lines_of xs) (lines_of ys) (some_line xs))

joined-last : (ls : List (List ℕ)) (r m : List ℕ) (ms : List (List ℕ)) → joined (ls ++ r ∷ []) (m ∷ ms) ≡ ls ++ (r ++ m) ∷ ms
joined-last [] r m ms = refl
joined-last (l ∷ []) r m ms = refl
joined-last (l ∷ k ∷ ls) r m ms = ap (λ xs. l ∷ xs) (joined-last (k ∷ ls) r m ms)

pub lines_of-line : (line rest : List ℕ) → IsLine line → lines_of (line ++ 10 ∷ rest) ≡ line ∷ lines_of rest
lines_of-line [] rest h = refl
lines_of-line (b ∷ bs) rest h = rw (h.0, lines_of-line bs rest h.1) refl

pub lines_of-part : (part : List ℕ) → IsLine part → lines_of part ≡ part ∷ []
lines_of-part [] h = refl
lines_of-part (b ∷ bs) h = rw (h.0, lines_of-part bs h.1) refl

-- more of the last line, and its line feed
pub after_line : (given partial prefix rest : List ℕ) (lines : List (List ℕ)) → lines_of given ≡ lines ++ partial ∷ [] → IsLine prefix
    → lines_of (given ++ (prefix ++ 10 ∷ rest)) ≡ lines ++ (partial ++ prefix) ∷ lines_of rest
after_line given partial prefix rest lines is line =
    lines_of-append given (prefix ++ 10 ∷ rest) ∙ rw (is, lines_of-line prefix rest line) (joined-last lines partial prefix (lines_of rest))

pub after_part : (given partial prefix : List ℕ) (lines : List (List ℕ)) → lines_of given ≡ lines ++ partial ∷ [] → IsLine prefix
    → lines_of (given ++ prefix) ≡ lines ++ (partial ++ prefix) ∷ []
after_part given partial prefix lines is line =
    lines_of-append given prefix ∙ rw (is, lines_of-part prefix line) (joined-last lines partial prefix [])

line_with : (bs : List ℕ) (n : ℕ) → n ≤ length bs → ((k : ℕ) → k < n → Passes (is_byte 10) bs k → ⊥) → IsLine (take n bs)
line_with bs zero within none = tt
line_with [] (suc n) within none = absurd (omega arith)
line_with (b ∷ bs) (suc n) within none = (false_from_ne_true (b == 10) (none 0 (omega arith)), line_with bs n (omega arith) (λ k below. none (suc k) (omega arith)))

-- the bytes before the first line feed
pub line_to : (bs : List ℕ) (n : ℕ) → NoneBefore (Passes (is_byte 10) bs) 0 (length bs) n → IsLine (take n bs)
line_to bs n first = line_with bs n (omega (arith, first.high)) (λ k below. first.before k (omega arith) below)

-- bytes without a line feed
pub line_before : (bs : List ℕ) → Nowhere (Passes (is_byte 10) bs) 0 (length bs) → IsLine (take (length bs) bs)
line_before bs none = line_with bs (length bs) (omega arith) (λ k below. none k (omega arith) below)

pub take_feed : (bs : List ℕ) (i : ℕ) → i < length bs → Passes (is_byte 10) bs i → take (i + 1) bs ≡ take i bs ++ 10 ∷ []
take_feed bs i within is =
    let feed : get_or bs i 0 ≡ 10 = grind (arith, nat_tests) in
    take_more bs i 0 within ∙ ap (λ b. take i bs ++ b ∷ []) feed
