-- The calls after a number, and the events among them.
use Rattle.std.proofs.Common.{◌≡◌, ℕ, suc, ◌+◌, ◌-◌, ◌<◌, ◌≤◌, ◌∙◌, false, true, ◌||◌, List, [], ◌∷◌, ◌++◌, Option, Some, None, ap, append-nil, arith, drop, get_or, length, map, max, min, nat_lt, refl, slice_get, sym, take}
use Rattle.std.proofs.{lemmas.Bool.Decides.{nat_tests}, lemmas.List.{get_or-drop, length-drop, length-take, map-append, take_more}, lemmas.List.Elements.{filter_map-append}, lemmas.Option.{get_or_from_slice_get, slice_get-get_or}}
use Rattle.std.specs.{List.{cons_option, filter_map}, declared.sync.Arc.{Arc}, declared.alloc.Global.{Global}}
use Rattle.fb_history.specs.BenchView.{BenchView, Record, last_number, record_at, record_numbered}
use Rattle.fb_history.specs.{Events.{event_of}, Records.{records_in}, Reads.{EventsMissed, EventsShown, events_after}}
use Rattle.fb_bench.proofs.Behind.{take_at_most}

-- the place of the next call
numbered : (bench : BenchView) (number : ℕ) → bench.origin.before ≤ number → record_numbered bench (number + 1) ≡ slice_get bench.log.records (number - bench.origin.before)
numbered bench number from =
    let place : number + 1 - bench.origin.before ≡ suc (number - bench.origin.before) = omega (arith, from) in
    ap (record_at bench.log.records) place

-- there is a record of each number up to the last one
pub has_record : (bench : BenchView) (number : ℕ) → bench.origin.before ≤ number → number < last_number bench → record_numbered bench (number + 1) ≡ None → ⊥
has_record bench number from within none =
    let some = slice_get_some bench.log.records (number - bench.origin.before) (omega (arith, from, within)) in
    none_some some.0 (sym none ∙ numbered bench number from ∙ some.1)
  where
    slice_get_some : {X : Type 0} (xs : List X) (i : ℕ) → i < length xs → (x : X) × (slice_get xs i ≡ Some x)
    slice_get_some [] i within = absurd (omega (arith, within))
    slice_get_some (x ∷ xs) i within = (get_or (x ∷ xs) i x, slice_get-get_or (x ∷ xs) i x within)

    none_some : {X : Type 0} (x : X) → None ≡ Some x → ⊥
    none_some x is = cc

-- the records after one number, up to another
abbrev pub records_up_to : BenchView → ℕ → ℕ → List Record
records_up_to bench first number = take (number - first) (drop (first - bench.origin.before) bench.log.records)

-- one record more
pub records_more : (bench : BenchView) (first number : ℕ) (it : Record) → bench.origin.before ≤ first → first ≤ number → number < last_number bench → record_numbered bench (number + 1) ≡ Some it
    → records_up_to bench first (number + 1) ≡ records_up_to bench first number ++ it ∷ []
records_more bench first number it from on within is =
    let place = first - bench.origin.before in
    let records = bench.log.records in
    let count : number + 1 - first ≡ number - first + 1 = omega (arith, on) in
    let at : number - bench.origin.before ≡ place + (number - first) = omega (arith, from, on) in
    let there : slice_get records (place + (number - first)) ≡ Some it = ap (slice_get records) (sym at) ∙ sym (numbered bench number (omega (arith, from, on))) ∙ is in
    let item : get_or (drop place records) (number - first) it ≡ it = get_or-drop place records (number - first) it ∙ get_or_from_slice_get records (place + (number - first)) it it there in
    ap (λ k. take k (drop place records)) count
    ∙ take_more (drop place records) (number - first) it (omega (arith, from, on, within, length-drop place records))
    ∙ ap (λ y. take (number - first) (drop place records) ++ y ∷ []) item

-- the events of one record more
pub events_more : (records : List (Arc Record Global)) (i : ℕ) (item : Arc Record Global) → i < length records → item ≡ get_or records i item
    → filter_map event_of (records_in (take (i + 1) records)) ≡ filter_map event_of (records_in (take i records)) ++ cons_option (event_of item.value) []
events_more records i item within is =
    let next : take (i + 1) records ≡ take i records ++ item ∷ [] = take_more records i item within ∙ ap (λ x. take i records ++ x ∷ []) (sym is) in
    ap (λ rs. filter_map event_of (records_in rs)) next
    ∙ ap (filter_map event_of) (map-append (λ (x : Arc Record Global). x.value) (take i records) (item ∷ []))
    ∙ filter_map-append event_of (records_in (take i records)) (item.value ∷ [])

-- an item that gives something is kept, and no other
pub kept_some : {X Y : Type 0} (f : X → Y) (xs ys : List X) (told : List Y) (x : X) (o : Option Y) → ys ≡ xs ++ x ∷ [] → map f xs ≡ told → Some (f x) ≡ o → map f ys ≡ told ++ cons_option o []
kept_some f xs ys told x o pushed kept is =
    ap (map f) pushed ∙ map-append f xs (x ∷ []) ∙ ap (λ l. l ++ f x ∷ []) kept ∙ ap (λ p. told ++ cons_option p []) is

pub kept_none : {Y : Type 0} (kept told : List Y) (o : Option Y) → kept ≡ told → None ≡ o → kept ≡ told ++ cons_option o []
kept_none kept told o same is = same ∙ sym (append-nil told) ∙ ap (λ p. told ++ cons_option p []) is

-- ---- what is shown

pub missed_before : (bench : BenchView) (after : ℕ) → after < bench.origin.last_event → EventsMissed (last_number bench) ≡ events_after bench after
missed_before bench after before =
    let first : nat_lt after bench.origin.last_event ≡ true = grind (arith, nat_tests) in
    rw first refl

pub missed_behind : (bench : BenchView) (after : ℕ) → last_number bench < after → EventsMissed (last_number bench) ≡ events_after bench after
missed_behind bench after behind =
    let missed : nat_lt after bench.origin.last_event || nat_lt (last_number bench) after ≡ true = grind (arith, nat_tests) in
    rw missed refl

pub events_shown : (bench : BenchView) (after first at : ℕ) (records : List Record) → bench.origin.last_event ≤ after → after ≤ last_number bench → first ≡ max after bench.origin.before
    → at ≡ first + min (last_number bench - first) 200 → records ≡ records_up_to bench first at
    → EventsShown at (filter_map event_of records) ≡ events_after bench after
events_shown bench after first at records from on begun is kept =
    let missed_none : nat_lt after bench.origin.last_event ≡ false = grind (arith, nat_tests) in
    let come : nat_lt (last_number bench) after ≡ false = grind (arith, nat_tests) in
    let rest : List Record = drop (after - bench.origin.before) bench.log.records in
    let place : first - bench.origin.before ≡ after - bench.origin.before = omega (arith, begun) in
    let long : length rest ≡ last_number bench - first = omega (arith, begun, on, length-drop (after - bench.origin.before) bench.log.records) in
    let count : at - first ≡ min (length rest) 200 = omega (arith, is, long) in
    let looked : at ≡ max after bench.origin.before + length (take 200 rest) = omega (arith, begun, is, long, length-take 200 rest) in
    let all : records ≡ take 200 rest = kept ∙ ap (λ p. take (at - first) (drop p bench.log.records)) place ∙ take_at_most rest 200 (at - first) count in
    rw (missed_none, come) (λ k. EventsShown (looked k) (filter_map event_of (all k)))
