-- Seats and receipts, one more at a time.
use Rattle.std.proofs.Common.{◌≡◌, ◌≢◌, zero, suc, ◌==◌, ◌&&◌, ◌||◌, ℕ, ◌+◌, ◌-◌, ◌<◌, ◌≤◌, List, [], ◌∷◌, Bool, true, false, not, cond, Option, Some, None, refl, ap, sym, ◌∙◌, subst, arith, length, take, get_or, set, min, add-zero, get_or-set_same, get_or-set_other}
use Rattle.std.proofs.{lemmas.Option.{slice_get_within}, lemmas.Bool.{eqb-true, eq-eqb}, lemmas.Bool.Decides.{nat_tests}, lemmas.List.Elements.{All-more}}
use Rattle.std.proofs.{lemmas.List.Sums.{sum_by_more, sum_by-cons}, lemmas.List.Folds.{list_any_more}}
use Rattle.fb_bench.specs.History.BenchView.{Record, BenchView, all_turns, record_at}
use Rattle.fb_locked.specs.{Seats.{SeatView, ReceiptView}, declared.close.CloseError.{CloseError}}
use Rattle.fb_locked.specs.declared.close.CloseError.TheVariants.{SeatMissing, SeatDiffers, ReceiptDiffers, ReceiptTwice, Memory}
use Rattle.fb_locked.specs.Closing.{IsLeast, lesser_of, has_wrong_seat, has_number, times, AreReceiptsRight, IsReceiptRight, AreSeated, AreSeatsRight, IsReceiptFault, IsFirstFault}

-- ---- the least that passes

pub least_more : (w w' : ℕ → Bool) (o : Option ℕ) (c : ℕ) (wrong : Bool) → IsLeast w o → ((q : ℕ) → w' q ≡ (w q || (c == q && wrong))) → IsLeast w' (lesser_of o c wrong)
least_more w w' None c false least more = λ q. more q ∙ grind (arith, nat_tests, least q)
least_more w w' (Some o) c false least more =
    ((more o ∙ grind (arith, nat_tests, least.0)), (λ p below. more p ∙ grind (arith, nat_tests, least.1 p)))
least_more w w' None c true least more =
    ((more c ∙ grind (arith, nat_tests)), (λ p below. more p ∙ grind (arith, nat_tests, least p)))
least_more w w' (Some o) c true least more =
    ((more (min c o) ∙ grind (arith, nat_tests, least.0)), (λ p below. more p ∙ grind (arith, nat_tests, least.1 p)))

-- the least of what passes both tests alike
pub least_same : (w w' : ℕ → Bool) (o : Option ℕ) → ((q : ℕ) → w' q ≡ w q) → IsLeast w o → IsLeast w' o
least_same w w' None same least = λ q. same q ∙ least q
least_same w w' (Some o) same least = (same o ∙ least.0, λ p below. same p ∙ least.1 p below)

-- ---- one more receipt

-- a record's place is at least 1 and at most the number of records
pub placed : (es : List Record) (n : ℕ) (e : Record) → record_at es n ≡ Some e → (1 ≤ n) × (n - 1 < length es)
placed es zero e is = absurd (let no : ⊥ = cc in no)
placed es (suc p) e is = (omega arith, (let here : suc p - 1 ≡ p = omega arith in rw here (slice_get_within es p e is)))

pub times_more : (n : ℕ) (rs : List ReceiptView) (i : ℕ) (d : ReceiptView) → i < length rs → times n (take (i + 1) rs) ≡ times n (take i rs) + cond ((get_or rs i d).number == n) 1 0
times_more n rs i d lt = sum_by_more (λ (c : ReceiptView). cond (c.number == n) 1 0) rs i d lt

once_at : (n number t : ℕ) (b : Bool) → number == n ≡ b → (number ≡ n → t ≡ 0) → t ≤ 1 → t + cond b 1 0 ≤ 1
once_at n number t true is new few = let e : t ≡ 0 = new (eqb-true number n is) in omega arith
once_at n number t false is new few = omega arith

pub right_more : (bench : BenchView) (rs : List ReceiptView) (i : ℕ) (r : ReceiptView) → i < length rs → r ≡ get_or rs i r → AreReceiptsRight bench (take i rs) → IsReceiptRight bench r → times r.number (take i rs) ≡ 0 → AreReceiptsRight bench (take (i + 1) rs)
right_more bench rs i r lt is right here new = record {
  right = All-more (IsReceiptRight bench) rs i r lt right.right (subst (IsReceiptRight bench) is here);
  once =
      λ n.
      rw (times_more n rs i r lt, ← is) (
      once_at n r.number (times n (take i rs)) (r.number == n) refl (λ same. subst (λ (m : ℕ). times m (take i rs) ≡ 0) same new) (right.once n)
      );
}

-- the mark of a number stands as many places before it as there were calls before the first record, and one
mark_at : (before m n t number : ℕ) (marks : List Bool) (b : Bool) → number == before + n + 1 ≡ b → m ≡ number - before - 1 → 1 ≤ number - before → m < length marks → (number ≡ before + n + 1 → t ≡ 0) → cond (get_or marks n false) 1 0 ≡ t → cond (get_or (set marks m true) n false) 1 0 ≡ t + cond b 1 0
mark_at before m n t number marks true is at one within new marked =
    let e : number ≡ before + n + 1 = eqb-true number (before + n + 1) is in
    let here : m ≡ n = omega arith in
    let none : t ≡ 0 = new e in
    rw (none, ← here, get_or-set_same) refl
mark_at before m n t number marks false is at one within new marked =
    let apart : n ≢ m = λ same. let e : number ≡ before + n + 1 = omega arith in let bad : true ≡ false = sym (eq-eqb number (before + n + 1) e) ∙ is in let no : ⊥ = cc in no in
    rw (get_or-set_other, marked) (sym (add-zero t))

pub marks_more : (before : ℕ) (rs : List ReceiptView) (i : ℕ) (r : ReceiptView) (marks : List Bool) → i < length rs → r ≡ get_or rs i r → 1 ≤ r.number - before → r.number - before - 1 < length marks
    → times r.number (take i rs) ≡ 0
    → (n : ℕ) → cond (get_or marks n false) 1 0 ≡ times (before + n + 1) (take i rs) → cond (get_or (set marks (r.number - before - 1) true) n false) 1 0 ≡ times (before + n + 1) (take (i + 1) rs)
marks_more before rs i r marks lt is one within new n marked =
    rw (times_more (before + n + 1) rs i r lt, ← is) (
    mark_at before (r.number - before - 1) n (times (before + n + 1) (take i rs)) r.number marks (r.number == before + n + 1) refl refl one within (λ same. subst (λ (m : ℕ). times m (take i rs) ≡ 0) same new) marked
    )

-- ---- one more seat

wrong_same : (bench : BenchView) (caller q turns : ℕ) (b : Bool) → caller == q ≡ b → (b && not (all_turns bench q == turns)) ≡ (b && not (all_turns bench caller == turns))
wrong_same bench caller q turns true is = ap (λ n. not (all_turns bench n == turns)) (sym (eqb-true caller q is))
wrong_same bench caller q turns false is = refl

pub wrong_more : (bench : BenchView) (seats : List SeatView) (i : ℕ) (s : SeatView) (q : ℕ) → i < length seats → s ≡ get_or seats i s
    → has_wrong_seat bench (take (i + 1) seats) q ≡ (has_wrong_seat bench (take i seats) q || (s.caller == q && not (all_turns bench s.caller == s.turns)))
wrong_more bench seats i s q lt is =
    list_any_more (λ (s : SeatView). s.caller == q && not (all_turns bench q == s.turns)) seats i s lt
    ∙ (
    rw (← is) (ap (λ b. has_wrong_seat bench (take i seats) q || b) (wrong_same bench s.caller q s.turns (s.caller == q) refl))
    )

-- ---- a number among receipts

times_cons : (n : ℕ) (c : ReceiptView) (cs : List ReceiptView) → times n (c ∷ cs) ≡ cond (c.number == n) 1 0 + times n cs
times_cons n c cs = sum_by-cons (λ (x : ReceiptView). cond (x.number == n) 1 0) c cs

none_at : (n : ℕ) (c : ReceiptView) (cs : List ReceiptView) (b : Bool) → c.number == n ≡ b → (b || has_number cs n) ≡ false → (has_number cs n ≡ false → times n cs ≡ 0) → times n (c ∷ cs) ≡ 0
none_at n c cs true is none rest = let bad : true ≡ false = none in cc
none_at n c cs false is none rest =
    let here : ◌≡◌ {A = ℕ} (cond (c.number == n) 1 0) 0 = ap (λ (b : Bool). cond b 1 0) is in omega (arith, times_cons n c cs, here, rest none)

pub none_times : (n : ℕ) (rs : List ReceiptView) → has_number rs n ≡ false → times n rs ≡ 0
none_times n [] none = refl
none_times n (c ∷ cs) none = none_at n c cs (c.number == n) refl none (none_times n cs)

some_at : (n : ℕ) (c : ReceiptView) (cs : List ReceiptView) (b : Bool) → c.number == n ≡ b → (b || has_number cs n) ≡ true → (has_number cs n ≡ true → 1 ≤ times n cs) → 1 ≤ times n (c ∷ cs)
some_at n c cs true is some rest = let here : ◌≡◌ {A = ℕ} (cond (c.number == n) 1 0) 1 = ap (λ (b : Bool). cond b 1 0) is in omega (arith, times_cons n c cs, here)
some_at n c cs false is some rest = omega (arith, times_cons n c cs, rest some)

pub some_times : (n : ℕ) (rs : List ReceiptView) → has_number rs n ≡ true → 1 ≤ times n rs
some_times n [] some = let bad : false ≡ true = some in cc
some_times n (c ∷ cs) some = some_at n c cs (c.number == n) refl some (some_times n cs)

-- a fault of the receipts is the first one, where the seats are right
pub receipt_fault : (callers : ℕ) (bench : BenchView) (seats : List SeatView) (rs : List ReceiptView) (fault : CloseError) → AreSeated callers bench seats → AreSeatsRight bench seats → IsReceiptFault bench rs fault → IsFirstFault callers bench seats rs fault
receipt_fault callers bench seats rs (SeatMissing q) seated right never = absurd never
receipt_fault callers bench seats rs (SeatDiffers q) seated right never = absurd never
receipt_fault callers bench seats rs (ReceiptDiffers n) seated right first = (seated, right, first)
receipt_fault callers bench seats rs (ReceiptTwice n) seated right first = (seated, right, first)
receipt_fault callers bench seats rs Memory seated right never = absurd never
