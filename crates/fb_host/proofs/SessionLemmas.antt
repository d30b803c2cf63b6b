-- What the steps of a session's desk leave in its receipts.
use Rattle.std.proofs.lemmas.List.Elements.{All-from_recursion}
use Rattle.std.specs.List.{All, AllByRecursion}
use Rattle.std.specs.declared.alloc.AllocError.{AllocError}
use Rattle.fb_locked.specs.History.declared.reading.Showing as made
use Rattle.std.proofs.Common.{◌≡◌, ◌≤◌, ℕ, List, [], ◌∷◌, ◌++◌, ◌∙◌, Err, Ok, Option, Result, Some, None, ap, append-nil, append_assoc, arith, map, refl, sym, subst}
use Rattle.fb_wire.specs.Conversations.{Runs}
use Rattle.fb_locked.specs.{Bench.Calls.{Replied, FullHistory, BehindHistory, Checked, SharedHistory, Exchange, AskedCall, AskedCheckpoint, AskedRead, ServesRead}, History.Machine.{Call, Reply}, History.BenchView.{last_number}, Runs.{IsRun}}
use Rattle.fb_locked.specs.{Seats.{SeatView, ReceiptView, IsReceiptOf, seat_after}, Reads.{IsReadAt, Reads, ReadsAt}, History.Reads.{Showing, showing_in}, History.declared.reading.Identity.{Identity}, History.declared.reading.Reading.{Reading}}
use Rattle.fb_shared.specs.{Seated.{SeatedView}, UnderLock.{IsBehind, UnderLock}}
use Rattle.fb_serve.specs.{AddedReceipts.{AddsRun}, Sessions.{answered_before, answered_in, call_shown}}
use Rattle.fb_host.specs.HostSessions.{IsHostRead, IsHostRun, LeadsTo, HostStep, SeesOn, SessionView, session_of}

-- ---- runs with reads

sees_on : (seat mid after : SeatView) → SeesOn seat mid → SeesOn mid after → SeesOn seat after
sees_on seat mid after one two = (two.0 ∙ one.0, two.1 ∙ one.1, omega (arith, one.2, two.2))

sees_same : (seat after : SeatView) → after ≡ seat → SeesOn seat after
sees_same seat after is = (ap (λ s. s.caller) is, ap (λ s. s.turns) is, (let seen : after.seen ≡ seat.seen = ap (λ s. s.seen) is in omega arith))

-- a read, and then a run
run_seen : (seat mid after : SeatView) (receipts : List ReceiptView) → SeesOn seat mid → IsHostRun mid receipts after → IsHostRun seat receipts after
run_seen seat mid after [] seen run = sees_on seat mid after seen run
run_seen seat mid after (receipt ∷ receipts) seen run = (run.0, sees_on seat mid run.0 seen run.1, run.2, run.3)

run_append : (seat mid after : SeatView) (one two : List ReceiptView) → IsHostRun seat one mid → IsHostRun mid two after → IsHostRun seat (one ++ two) after
run_append seat mid after [] two first more = run_seen seat mid after two first more
run_append seat mid after (receipt ∷ receipts) two first more = (first.0, first.1, first.2, run_append (seat_after first.0 receipt) mid after receipts two first.3 more)

run_of : (seat after : SeatView) (receipts : List ReceiptView) → IsRun seat receipts after → IsHostRun seat receipts after
run_of seat after [] run = sees_same seat after run
run_of seat after (receipt ∷ receipts) run = (seat, sees_same seat seat refl, run.0, run_of (seat_after seat receipt) after receipts run.1)

read_sees : (workbench : Identity) (seat after : SeatView) (reading : Reading) (shown : Showing) → IsReadAt workbench seat reading shown after → SeesOn seat after
read_sees workbench seat after reading shown read =
    let seen : after.seen ≡ last_number read.0 = ap (λ s. s.seen) read.3 in
    (ap (λ s. s.caller) read.3, ap (λ s. s.turns) read.3, omega (arith, read.1.3))

-- ---- the steps of a desk

-- these receipts were added, of the answered calls
abbrev Shows : SeatedView → List (Call × Reply) → SeatedView → Type 0
Shows old answered new =
    (added : List ReceiptView) × (new.receipts ≡ old.receipts ++ added) × (answered ≡ map call_shown added) × IsHostRun old.seat added new.seat

shows_more : (exchange : Exchange) (old mid new : SessionView) (answered : List (Call × Reply)) → HostStep old exchange mid → Shows mid.seated answered new.seated → Shows old.seated (answered_before exchange answered) new.seated
shows_more (AskedCall call (Replied reply)) old mid new answered step rest =
    let made = step.0 in
    let receipt : ReceiptView = made.0 in
    let first : IsReceiptOf old.seated.seat receipt.entry.call receipt = subst (λ (c : Call). IsReceiptOf old.seated.seat c receipt) (sym made.2.call_is) made.2 in
    let more : IsHostRun (seat_after old.seated.seat receipt) rest.0 new.seated.seat = subst (λ (s : SeatView). IsHostRun s rest.0 new.seated.seat) made.4 rest.3 in
    let shown : (call, reply) ≡ call_shown receipt = ap (λ (c : Call). (c, reply)) (sym made.2.call_is) ∙ ap (λ (r : Reply). (receipt.entry.call, r)) (sym made.3) in (
      receipt ∷ rest.0,
      rest.1 ∙ ap (λ (l : List ReceiptView). l ++ rest.0) made.1 ∙ append_assoc old.seated.receipts (receipt ∷ []) rest.0,
      ap (λ (l : List (Call × Reply)). (call, reply) ∷ l) rest.2 ∙ ap (λ (p : Call × Reply). p ∷ map call_shown rest.0) shown,
      (old.seated.seat, sees_same old.seated.seat old.seated.seat refl, first, more),
    )
shows_more (AskedCall call FullHistory) old mid new answered step rest = absurd step
shows_more (AskedCall call BehindHistory) old mid new answered step rest = subst (λ (s : SessionView). Shows s.seated answered new.seated) step rest
shows_more (AskedCheckpoint limits SharedHistory) old mid new answered step rest = subst (λ (s : SessionView). Shows s.seated answered new.seated) step rest
shows_more (AskedCheckpoint limits (Checked checking)) old mid new answered step rest = absurd step
shows_more (AskedRead reading (Some shown)) old mid new answered step rest = (
  rest.0,
  rest.1 ∙ ap (λ (l : List ReceiptView). l ++ rest.0) step.1,
  rest.2,
  run_seen old.seated.seat mid.seated.seat new.seated.seat rest.0 (read_sees old.workbench old.seated.seat mid.seated.seat reading shown step.0) rest.3,
)
shows_more (AskedRead reading None) old mid new answered step rest = subst (λ (s : SessionView). Shows s.seated answered new.seated) step rest

runs_show : (pairs : List Exchange) (old new : SessionView) → Runs HostStep old pairs new → Shows old.seated (answered_in pairs) new.seated
runs_show [] old new runs =
    ([], ap (λ (s : SessionView). s.seated.receipts) runs ∙ sym (append-nil old.seated.receipts), refl, sees_same old.seated.seat new.seated.seat (ap (λ (s : SessionView). s.seated.seat) runs))
runs_show (p ∷ ps) old new runs = shows_more p old runs.0 new (answered_in ps) runs.1 (runs_show ps runs.0 new runs.2)

-- no step changes the identity
same_workbench : (exchange : Exchange) (old new : SessionView) → HostStep old exchange new → new.workbench ≡ old.workbench
same_workbench (AskedCall call (Replied reply)) old new step = step.1
same_workbench (AskedCall call FullHistory) old new step = absurd step
same_workbench (AskedCall call BehindHistory) old new step = ap (λ s. s.workbench) step
same_workbench (AskedCheckpoint limits SharedHistory) old new step = ap (λ s. s.workbench) step
same_workbench (AskedCheckpoint limits (Checked checking)) old new step = absurd step
same_workbench (AskedRead reading (Some shown)) old new step = step.2
same_workbench (AskedRead reading None) old new step = ap (λ s. s.workbench) step

runs_same : (pairs : List Exchange) (old new : SessionView) → Runs HostStep old pairs new → new.workbench ≡ old.workbench
runs_same [] old new runs = ap (λ s. s.workbench) runs
runs_same (p ∷ ps) old new runs = runs_same ps runs.0 new runs.2 ∙ same_workbench p old runs.0 runs.1

-- from a desk with no receipts, whose seat and receipts are then taken out
pub desk_runs : (pairs : List Exchange) (workbench : Identity) (seat : SeatView) (old new : SessionView) (left : SeatView) (receipts : List ReceiptView)
    → old ≡ session_of workbench seat [] → Runs HostStep old pairs new → left ≡ new.seated.seat → receipts ≡ new.seated.receipts
    → Runs HostStep (session_of workbench seat []) pairs (session_of workbench left receipts)
desk_runs pairs workbench seat old new left receipts begun runs seat_is receipts_are =
    let same : new.workbench ≡ workbench = runs_same pairs old new runs ∙ ap (λ s. s.workbench) begun in
    let is : new ≡ session_of workbench left receipts = λ i. record { seated = record { seat = sym seat_is i; receipts = sym receipts_are i }; workbench = same i } in
    subst (λ (s : SessionView). Runs HostStep (session_of workbench seat []) pairs s) is (subst (λ (s : SessionView). Runs HostStep s pairs new) begun runs)

pub desk_shown : (pairs : List Exchange) (workbench : Identity) (seat left : SeatView) (receipts : List ReceiptView) → Runs HostStep (session_of workbench seat []) pairs (session_of workbench left receipts)
    → (answered_in pairs ≡ map call_shown receipts) × IsHostRun seat receipts left
desk_shown pairs workbench seat left receipts runs =
    let shows = runs_show pairs (session_of workbench seat []) (session_of workbench left receipts) runs in
    (shows.2 ∙ ap (map call_shown) (sym shows.1), subst (λ (l : List ReceiptView). IsHostRun seat l left) (sym shows.1) shows.3)

-- ---- where calls lead

pub leads_nowhere : (seat : SeatView) → LeadsTo seat seat
leads_nowhere seat = ([], sees_same seat seat refl)

pub leads_on : (seat middle after : SeatView) → LeadsTo seat middle → LeadsTo middle after → LeadsTo seat after
leads_on seat middle after one two = (one.0 ++ two.0, run_append seat middle after one.0 two.0 one.1 two.1)

pub leads_adds : (seat : SeatView) (old : List ReceiptView) (after : SeatView) (new : List ReceiptView) → AddsRun seat old after new → LeadsTo seat after
leads_adds seat old after new adds = (adds.0, run_of seat after adds.0 adds.2)

pub leads_run : (seat after : SeatView) (receipts : List ReceiptView) → IsHostRun seat receipts after → LeadsTo seat after
leads_run seat after receipts run = (receipts, run)

pub ruleset leads = (leads_nowhere, leads_on, leads_adds, leads_run)

-- ---- a read, a run, and a read

abbrev IsUpTo : ℕ → ReceiptView → Type 0
IsUpTo seen receipt = receipt.number ≤ seen

-- what a run has seen, and each of its calls, is before what the seat has seen then
run_grows : (seat after : SeatView) (receipts : List ReceiptView) (seen : ℕ) → IsHostRun seat receipts after → after.seen ≤ seen → (seat.seen ≤ seen) × AllByRecursion (IsUpTo seen) receipts
run_grows seat after [] seen run le = (omega (arith, run.2, le), tt)
run_grows seat after (receipt ∷ receipts) seen run le =
    let rest = run_grows (seat_after run.0 receipt) after receipts seen run.3 le in
    (omega (arith, run.1.2, run.2.later, rest.0), (rest.0, rest.1))

pub reads_go_on : (workbench : Identity) (seat mid after later : SeatView) (first second : Reading) (shown again : Showing) (receipts : List ReceiptView)
    → IsReadAt workbench seat first shown mid → IsHostRun mid receipts after → IsReadAt workbench after second again later → (mid.seen ≤ later.seen) × All (IsUpTo later.seen) receipts
reads_go_on workbench seat mid after later first second shown again receipts one run two =
    let grown = run_grows mid after receipts later.seen run (read_sees workbench after later second again two).2 in
    (grown.0, All-from_recursion (IsUpTo later.seen) receipts grown.1)

-- ---- a read of a desk

pub reads_behind : (workbench : Identity) (seat after : SeatView) (reading : Reading) (r : Result (Option made.Showing) AllocError) → UnderLock (λ locked. Reads locked workbench seat reading r after) → r ≡ Ok None → IsBehind seat
reads_behind workbench seat after reading r under is = (under.0, under.1, (subst (λ r. Reads under.0 workbench seat reading r after) is under.2).0)

-- what the lock says of a seat, as the desk says it
pub reads_as : (workbench : Identity) (old new : SessionView) (reading : Reading) (r : Result (Option made.Showing) AllocError) → workbench ≡ old.workbench → ReadsAt workbench old.seated.seat reading r new.seated.seat
    → new.seated.receipts ≡ old.seated.receipts → new.workbench ≡ old.workbench → ServesRead IsHostRead old reading r new
reads_as workbench old new reading (Ok (Some shown)) is read same kept = (subst (λ w. IsReadAt w old.seated.seat reading (showing_in shown) new.seated.seat) is read, same, kept)
reads_as workbench old new reading (Ok None) is read same kept = λ k. record { seated = record { seat = read k; receipts = same k }; workbench = kept k }
reads_as workbench old new reading (Err e) is read same kept = λ k. record { seated = record { seat = read k; receipts = same k }; workbench = kept k }
