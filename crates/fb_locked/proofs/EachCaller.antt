-- The callers of a workbench, one more at a time: whose seats are missing, who gets no seat, and how many calls each has made.
use Rattle.std.proofs.Common.{◌≡◌, ◌==◌, ◌&&◌, ◌||◌, ℕ, List, [], ◌∷◌, ◌++◌, Bool, true, false, not, cond, Option, Some, None, map, refl, ap, sym, ◌∙◌, arith, nat_lt, nat_cmp, unwrap_or}
use Rattle.std.proofs.{lemmas.Bool.{and_parts, eqb-true}, lemmas.Bool.Decides.{nat_tests}, lemmas.List.{map-append}, lemmas.List.Folds.{list_any-append}}
use Rattle.std.specs.{Borrow.{Bor}, BTreeMap.{is_at}, List.{list_any}, Map.{keys_of, lookup}, Map.Iter.{deref}}
use Rattle.fb_bench.specs.History.BenchView.{BenchView, all_turns, on_page, pages_after}
use Rattle.fb_history.proofs.Pages.{on_all}
use Rattle.fb_locked.specs.{Book.{is_first, is_caller, has_called}, Closing.{has_seat, is_missing}, Resuming.{is_left_out}, Seats.{SeatView}}

-- ---- one caller more is seen

or_false : (b : Bool) → (b || false) ≡ b
or_false true = refl
or_false false = refl

under : (b x y : Bool) → (b ≡ true → x ≡ y) → (b && x) ≡ (b && y)
under true x y same = same refl
under false x y same = refl

either_called : (m b t : Bool) → ((m || b) && t) ≡ ((m && t) || (b && t))
either_called true true true = refl
either_called true true false = refl
either_called true false true = refl
either_called true false false = refl
either_called false b t = refl

seen_more : (seen : List (Bor ℕ)) (k : Bor ℕ) (q : ℕ) → list_any (λ (n : ℕ). n == q) (map deref (seen ++ k ∷ [])) ≡ (list_any (λ (n : ℕ). n == q) (map deref seen) || k.now == q)
seen_more seen k q =
    let is_it : ℕ → Bool = λ n. n == q in
    ap (list_any is_it) (map-append deref seen (k ∷ []))
    ∙ (list_any-append is_it (map deref seen) (k.now ∷ []) ∙ ap (λ b. list_any is_it (map deref seen) || b) (or_false (k.now == q)))

pub called_more : (bench : BenchView) (seen : List (Bor ℕ)) (k : Bor ℕ) (q : ℕ) → has_called (map deref (seen ++ k ∷ [])) bench q ≡ (has_called (map deref seen) bench q || (k.now == q && nat_lt 0 (all_turns bench k.now)))
called_more bench seen k q =
    let m : Bool = list_any (λ (n : ℕ). n == q) (map deref seen) in
    let t : Bool = nat_lt 0 (all_turns bench q) in
    let same : (k.now == q && t) ≡ (k.now == q && nat_lt 0 (all_turns bench k.now)) = under (k.now == q) t (nat_lt 0 (all_turns bench k.now)) (λ e. ap (λ n. nat_lt 0 (all_turns bench n)) (sym (eqb-true k.now q e))) in
    ap (λ b. b && t) (seen_more seen k q) ∙ (either_called m (k.now == q) t ∙ ap (λ b. (m && t) || b) same)

-- ---- all callers are seen

not_first : (e : ℕ × ℕ) (es : List (ℕ × ℕ)) (q : ℕ) (b : Bool) → e.0 == q ≡ b → (b || list_any (λ (n : ℕ). n == q) (keys_of es)) ≡ false → (list_any (λ (n : ℕ). n == q) (keys_of es) ≡ false → on_page es q ≡ 0) → on_page (e ∷ es) q ≡ 0
not_first e es q true is none rest = absurd (let bad : true ≡ false = none in let no : ⊥ = cc in no)
not_first e es q false is none rest = let apart : is_at (nat_cmp q) e.0 ≡ false = grind (arith, nat_tests) in ap (λ b. unwrap_or (cond b (Some e.1) (lookup (is_at (nat_cmp q)) es)) 0) apart ∙ rest none

-- a caller that has no page has no calls there
no_page : (es : List (ℕ × ℕ)) (q : ℕ) → list_any (λ (n : ℕ). n == q) (keys_of es) ≡ false → on_page es q ≡ 0
no_page [] q none = refl
no_page (e ∷ es) q none = not_first e es q (e.0 == q) refl none (no_page es q)

all_called : (m : Bool) (n : ℕ) → (m ≡ false → n ≡ 0) → (m && nat_lt 0 n) ≡ nat_lt 0 n
all_called true n none = refl
all_called false n none = sym (ap (nat_lt 0) (none refl))

-- who has made a call is among the pages of all calls
pub called_all : (bench : BenchView) (seen : List ℕ) (q : ℕ) → seen ≡ keys_of (pages_after bench.origin.pages bench.log.records) → has_called seen bench q ≡ nat_lt 0 (all_turns bench q)
called_all bench seen q is =
    all_called (list_any (λ (n : ℕ). n == q) seen) (all_turns bench q) (
    λ none.
    let pages = pages_after bench.origin.pages bench.log.records in
    sym (on_all bench.origin.pages bench.log.records q) ∙ no_page pages q (ap (list_any (λ (n : ℕ). n == q)) (sym is) ∙ none)
    )

-- ---- the least one, where it is one of those that are seen, or one of the first callers

lacking : (a b h : Bool) → ((a || b) && not h) ≡ ((a && not h) || (b && not h))
lacking true true true = refl
lacking true true false = refl
lacking true false true = refl
lacking true false false = refl
lacking false b h = refl

lacking_one : (b t h h' : Bool) → (b ≡ true → h ≡ h') → ((b && t) && not h) ≡ (b && (t && not h'))
lacking_one true t h h' same = ap (λ x. t && not x) (same refl)
lacking_one false t h h' same = refl

lacking_more : (a' a b t h h' : Bool) → a' ≡ (a || (b && t)) → (b ≡ true → h ≡ h') → (a' && not h) ≡ ((a && not h) || (b && (t && not h')))
lacking_more a' a b t h h' is same = ap (λ x. x && not h) is ∙ (lacking a (b && t) h ∙ ap (λ x. (a && not h) || x) (lacking_one b t h h' same))

either_assoc : (a b c : Bool) → (a || (b || c)) ≡ ((a || b) || c)
either_assoc true b c = refl
either_assoc false b c = refl

-- a caller whose seat is missing: one of the first, or one of those that were seen
abbrev pub is_unseated : ℕ → List ℕ → BenchView → List SeatView → ℕ → Bool
is_unseated callers seen bench seats q = (is_first callers q || has_called seen bench q) && not (has_seat seats q)

pub unseated_none : (callers : ℕ) (bench : BenchView) (seats : List SeatView) (q : ℕ) → is_unseated callers [] bench seats q ≡ (is_first callers q && not (has_seat seats q))
unseated_none callers bench seats q = ap (λ b. b && not (has_seat seats q)) (or_false (is_first callers q))

pub unseated_more : (callers : ℕ) (bench : BenchView) (seats : List SeatView) (seen : List (Bor ℕ)) (k : Bor ℕ) (q : ℕ)
    → is_unseated callers (map deref (seen ++ k ∷ [])) bench seats q
    ≡ (is_unseated callers (map deref seen) bench seats q || (k.now == q && (nat_lt 0 (all_turns bench k.now) && not (has_seat seats k.now))))
unseated_more callers bench seats seen k q =
    let before : Bool = has_called (map deref seen) bench q in
    let more : Bool = k.now == q && nat_lt 0 (all_turns bench k.now) in
    lacking_more (is_first callers q || has_called (map deref (seen ++ k ∷ [])) bench q) (is_first callers q || before) (k.now == q) (nat_lt 0 (all_turns bench k.now)) (has_seat seats q) (has_seat seats k.now)
    (ap (λ b. is_first callers q || b) (called_more bench seen k q) ∙ either_assoc (is_first callers q) before more)
    (λ same. ap (has_seat seats) (sym (eqb-true k.now q same)))

pub unseated_all : (callers : ℕ) (bench : BenchView) (seats : List SeatView) (seen : List ℕ) (q : ℕ) → seen ≡ keys_of (pages_after bench.origin.pages bench.log.records) → is_missing callers bench seats q ≡ is_unseated callers seen bench seats q
unseated_all callers bench seats seen q is = ap (λ b. (is_first callers q || b) && not (has_seat seats q)) (sym (called_all bench seen q is))

-- a caller that gets no seat, of those that were seen
abbrev pub is_beyond : List ℕ → BenchView → ℕ → ℕ → Bool
is_beyond seen bench callers q = has_called seen bench q && not (is_first callers q)

pub beyond_more : (callers : ℕ) (bench : BenchView) (seen : List (Bor ℕ)) (k : Bor ℕ) (q : ℕ) → is_beyond (map deref (seen ++ k ∷ [])) bench callers q ≡ (is_beyond (map deref seen) bench callers q || (k.now == q && is_left_out bench callers k.now))
beyond_more callers bench seen k q =
    lacking_more (has_called (map deref (seen ++ k ∷ [])) bench q) (has_called (map deref seen) bench q) (k.now == q) (nat_lt 0 (all_turns bench k.now)) (is_first callers q) (is_first callers k.now)
    (called_more bench seen k q)
    (λ same. ap (is_first callers) (sym (eqb-true k.now q same)))

pub beyond_all : (callers : ℕ) (bench : BenchView) (seen : List ℕ) (q : ℕ) → seen ≡ keys_of (pages_after bench.origin.pages bench.log.records) → is_left_out bench callers q ≡ is_beyond seen bench callers q
beyond_all callers bench seen q is = ap (λ b. b && not (is_first callers q)) (sym (called_all bench seen q is))

-- ---- how many calls each has made

counted_at : (a' a b : Bool) (t t' : ℕ) (old new : Option ℕ) → a' ≡ (a || b) → (b ≡ true → t' ≡ t) → old ≡ cond a (Some t) None → new ≡ cond b (Some t') old → new ≡ cond a' (Some t) None
counted_at a' true true t t' old new is same was now = now ∙ (ap Some (same refl) ∙ ap (λ (x : Bool). cond x (Some t) None) (sym is))
counted_at a' false true t t' old new is same was now = now ∙ (ap Some (same refl) ∙ ap (λ (x : Bool). cond x (Some t) None) (sym is))
counted_at a' true false t t' old new is same was now = now ∙ (was ∙ ap (λ (x : Bool). cond x (Some t) None) (sym is))
counted_at a' false false t t' old new is same was now = now ∙ (was ∙ ap (λ (x : Bool). cond x (Some t) None) (sym is))

pub counted_more : (callers : ℕ) (bench : BenchView) (seen : List (Bor ℕ)) (k : Bor ℕ) (q : ℕ) (old new : Option ℕ)
    → old ≡ cond (is_first callers q || has_called (map deref seen) bench q) (Some (all_turns bench q)) None
    → new ≡ cond (k.now == q && nat_lt 0 (all_turns bench k.now)) (Some (all_turns bench k.now)) old
    → new ≡ cond (is_first callers q || has_called (map deref (seen ++ k ∷ [])) bench q) (Some (all_turns bench q)) None
counted_more callers bench seen k q old new was now =
    let before : Bool = has_called (map deref seen) bench q in
    let more : Bool = k.now == q && nat_lt 0 (all_turns bench k.now) in
    counted_at (is_first callers q || has_called (map deref (seen ++ k ∷ [])) bench q) (is_first callers q || before) more (all_turns bench q) (all_turns bench k.now) old new
    (ap (λ b. is_first callers q || b) (called_more bench seen k q) ∙ either_assoc (is_first callers q) before more)
    (λ both. ap (all_turns bench) (eqb-true k.now q (and_parts (k.now == q) (nat_lt 0 (all_turns bench k.now)) both).0))
    was now

pub counted_all : (callers : ℕ) (bench : BenchView) (seen : List ℕ) (q : ℕ) → seen ≡ keys_of (pages_after bench.origin.pages bench.log.records)
    → ◌≡◌ {A = Option ℕ} (cond (is_first callers q || has_called seen bench q) (Some (all_turns bench q)) None) (cond (is_caller callers bench q) (Some (all_turns bench q)) None)
counted_all callers bench seen q is = ap (λ (b : Bool). cond (is_first callers q || b) (Some (all_turns bench q)) None) (called_all bench seen q is)
