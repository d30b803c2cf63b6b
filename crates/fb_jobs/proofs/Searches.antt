-- A search among reads that stand by rising name, and what is found at its end.
use Rattle.std.proofs.Common.{◌≡◌, ℕ, zero, suc, ◌<◌, false, cond, List, [], ◌∷◌, length, map, get_or, refl, sym, ap, subst, ◌∙◌, arith, Option, Some, None, Result, All}
use Rattle.std.proofs.{lemmas.Map.Keys.{Less-from_sorted}, lemmas.List.{get_or-map}, lemmas.List.Elements.{All-get_or}}
use Rattle.std.specs.{List.{AllByRecursion}, List.Sorted.{IsStrictlySortedBy, IsSearchInRange, IsBinarySearchResult}, Ordering.{is_eq}}
use Rattle.std.specs.{declared.cmp.Ordering.TheVariants.{Less}, Option.{MatchOption, option_map}, declared.sync.Arc.{Arc}, declared.alloc.Global.{Global}}
use Rattle.fb_text.specs.Order.{name_cmp}
use Rattle.fb_deploy.specs.{Library.Texts.{Held, held, text_in, text_at}, Parse.Source.{Written}, Library.Place.{IsAt, IsGapFor}}
use Rattle.fb_deploy.proofs.{Library.Places.{greater}, Library.Searches.{Searched, searched as search_of}}
use Rattle.fb_jobs.specs.{Reads.{Seen, read_names, read_texts, put_found}, Values.{all_seen, seen_of, found_in, IsOwn}, declared.keys.read.Read.{Read}}
use Rattle.fb_jobs.proofs.SameNeeds.{at_itself}

abbrev names : List Read → List (List ℕ)
names reads = read_names (all_seen reads)

count : (reads : List Read) → length (names reads) ≡ length reads
count [] = refl
count (r ∷ reads) = ap (λ n. suc n) (count reads)

names_are : (reads : List Read) → names reads ≡ map (λ (it : Read). it.name) reads
names_are [] = refl
names_are (r ∷ reads) = ap (λ l. r.name ∷ l) (names_are reads)

-- a search ends at the read of that name, or where it would go
pub searched : (reads : List Read) (n : List ℕ) (r : Result ℕ ℕ) → IsStrictlySortedBy name_cmp (names reads) → IsSearchInRange r (length reads) → IsBinarySearchResult (λ (it : Read). name_cmp it.name n) reads r → Searched (names reads) n r
searched reads n r sorted within is =
    subst (λ ns. Searched ns n r) (sym (names_are reads)) (search_of (λ (it : Read). it.name) reads n r (subst (IsStrictlySortedBy name_cmp) (names_are reads) sorted) within is)

-- ---- what is held there

-- no read has the name
abbrev Apart : List Seen → List ℕ → Type 0
Apart reads n = AllByRecursion (λ m. is_eq (name_cmp n m) ≡ false) (read_names reads)

passed : (m n : List ℕ) (found : Option Held) (reads : List Seen) → is_eq (name_cmp n m) ≡ false → held (put_found m found (read_texts reads)) n ≡ held (read_texts reads) n
passed m n None reads other = refl
passed m n (Some it) reads other = ap (λ b. cond b (Some it) (held (read_texts reads) n)) other

none_apart : (reads : List Seen) (n : List ℕ) → Apart reads n → held (read_texts reads) n ≡ None
none_apart [] n apart = refl
none_apart (r ∷ reads) n apart = passed r.name n r.found reads apart.0 ∙ none_apart reads n apart.1

apart_gap : (reads : List Seen) (n : List ℕ) (i : ℕ) → IsGapFor (read_names reads) n i → Apart reads n
apart_gap [] n i gap = tt
apart_gap (r ∷ reads) n zero gap = (
  ap is_eq (gap.above 0 (omega arith) (omega arith)),
  apart_gap reads n zero (record { in_range = omega arith; below = λ j lt. absurd (omega arith); above = λ j le lt. gap.above (suc j) (omega arith) (omega arith) }),
)
apart_gap (r ∷ reads) n (suc i) gap = (
  ap is_eq (greater r.name n (gap.below 0 (omega arith))),
  apart_gap reads n i (record {
    in_range = omega (arith, gap.in_range);
    below = λ j lt. gap.below (suc j) (omega arith);
    above = λ j le lt. gap.above (suc j) (omega arith) (omega arith);
  }),
)

pub none_in_gap : (reads : List Seen) (n : List ℕ) (i : ℕ) → IsGapFor (read_names reads) n i → held (read_texts reads) n ≡ None
none_in_gap reads n i gap = none_apart reads n (apart_gap reads n i gap)

apart_below : (reads : List Seen) (n : List ℕ) → AllByRecursion (λ m. name_cmp n m ≡ Less) (read_names reads) → Apart reads n
apart_below [] n below = tt
apart_below (r ∷ reads) n below = (ap is_eq below.0, apart_below reads n below.1)

held_first : (n : List ℕ) (found : Option Held) (reads : List Seen) → AllByRecursion (λ m. name_cmp n m ≡ Less) (read_names reads) → held (put_found n found (read_texts reads)) n ≡ found
held_first n None reads below = none_apart reads n (apart_below reads n below)
held_first n (Some it) reads below = ap (λ b. cond b (Some it) (held (read_texts reads) n)) (at_itself n)

-- what was read under the name at a place
pub found_at : (reads : List Seen) (n : List ℕ) (i : ℕ) (d : Seen) → IsStrictlySortedBy name_cmp (read_names reads) → IsAt (read_names reads) n i → held (read_texts reads) n ≡ (get_or reads i d).found
unfolding IsStrictlySortedBy
found_at [] n i d sorted is = absurd (omega (arith, is.in_range))
found_at (r ∷ reads) n zero d sorted is =
    subst (λ m. held (put_found r.name r.found (read_texts reads)) m ≡ r.found) is.named (held_first r.name r.found reads sorted.0)
found_at (r ∷ reads) n (suc i) d sorted is =
    let rest : IsAt (read_names reads) n i = record { in_range = omega (arith, is.in_range); named = is.named } in
    let below : name_cmp r.name n ≡ Less = ap (name_cmp r.name) (sym is.named) ∙ Less-from_sorted name_cmp (r.name ∷ read_names reads) 0 (suc i) [] sorted (omega arith) is.in_range in
    passed r.name n r.found reads (ap is_eq (greater r.name n below)) ∙ found_at reads n i d sorted.1 rest

-- the text that was read at a place
pub text_there : (reads : List Read) (n : List ℕ) (i : ℕ) (r : Read) → IsStrictlySortedBy name_cmp (names reads) → IsAt (names reads) n i → r ≡ get_or reads i r → text_at (read_texts (all_seen reads)) n ≡ option_map text_in (found_in r.revision r.source)
text_there reads n i r sorted is e =
    let lt : i < length reads = omega (arith, is.in_range, count reads) in
    ap (option_map text_in) (found_at (all_seen reads) n i (seen_of r) sorted is ∙ ap (λ (s : Seen). s.found) (get_or-map seen_of reads i r (seen_of r) lt ∙ ap seen_of (sym e)))

-- the read at the place of a name is of that name
pub name_there : (reads : List Read) (n : List ℕ) (i : ℕ) (r : Read) → IsAt (names reads) n i → r ≡ get_or reads i r → r.name ≡ n
name_there reads n i r is e =
    let lt : i < length reads = omega (arith, is.in_range, count reads) in
    ap (λ (it : Read). it.name) e
    ∙ sym (get_or-map (λ (it : Read). it.name) reads i r [] lt)
    ∙ ap (λ l. get_or l i []) (sym (names_are reads))
    ∙ is.named

-- and so is its source
pub own_there : (reads : List Read) (n : List ℕ) (i : ℕ) (r : Read) (source : Arc Written Global) → All IsOwn reads → IsAt (names reads) n i → r ≡ get_or reads i r → r.source ≡ Some source → source.value.unit ≡ n
own_there reads n i r source own is e some =
    let lt : i < length reads = omega (arith, is.in_range, count reads) in
    let owned : IsOwn r = subst IsOwn (sym e) (All-get_or IsOwn reads i r lt own) in
    subst (λ (o : Option (Arc Written Global)). MatchOption o (r.revision ≡ 0) (λ it. it.value.unit ≡ r.name)) some owned ∙ name_there reads n i r is e
