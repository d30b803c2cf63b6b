-- The callers, with the number of calls of each.
use Rattle.std.specs.{Prelude.{◌≡◌, ℕ, ◌≤◌, ◌&&◌, ◌||◌, ◌==◌, List, Bool, Option, Some, None, nat_lt, nat_le, if◌then◌else◌}, List.{list_any}}
use Rattle.std.specs.{Ordering.{nat_cmp}, BTreeMap.{BTreeMap, get}}
use Rattle.fb_bench.specs.History.BenchView.{BenchView, all_turns, last_number}
use Rattle.fb_locked.specs.Seats.{LockedView, SeatView}

-- the first callers, for whom seats are made
abbrev pub is_first : ℕ → ℕ → Bool
is_first callers q = nat_lt 0 q && nat_le q callers

-- the callers: the first ones, and each other one that has made a call
abbrev pub is_caller : ℕ → BenchView → ℕ → Bool
is_caller callers bench q = is_first callers q || nat_lt 0 (all_turns bench q)

-- what is on a caller's page: the number of its calls
abbrev pub page_of : ℕ → BenchView → ℕ → Option ℕ
page_of callers bench q = if is_caller callers bench q then Some (all_turns bench q) else None

-- each caller has its page, and nobody else has one
pub record IsBookOf (book : BTreeMap ℕ ℕ) (callers : ℕ) (bench : BenchView) : Type 0 where
  pub pages : (q : ℕ) → get nat_cmp book q ≡ page_of callers bench q

-- the number of the caller's calls is noted, and no other page is changed
abbrev pub CountsOne : ℕ → BenchView → BTreeMap ℕ ℕ → BTreeMap ℕ ℕ → Type 0
CountsOne caller bench old new = (q : ℕ) → get nat_cmp new q ≡ (if caller == q then Some (all_turns bench caller) else get nat_cmp old q)

-- the number of the caller's calls is noted if it has made one, and no other page is changed
abbrev pub CountsCalls : ℕ → BenchView → BTreeMap ℕ ℕ → BTreeMap ℕ ℕ → Type 0
CountsCalls caller bench old new =
    (q : ℕ) → get nat_cmp new q ≡ (if caller == q && nat_lt 0 (all_turns bench caller) then Some (all_turns bench caller) else get nat_cmp old q)

-- the caller is one of those that were seen, and has made a call
abbrev pub has_called : List ℕ → BenchView → ℕ → Bool
has_called seen bench q = list_any (λ k. k == q) seen && nat_lt 0 (all_turns bench q)

-- the number of its calls is noted of each first caller, and of each other one that was seen and has made a call
abbrev pub HasCounts : BTreeMap ℕ ℕ → ℕ → List ℕ → BenchView → Type 0
HasCounts book callers seen bench =
    (q : ℕ) → get nat_cmp book q ≡ (if is_first callers q || has_called seen bench q then Some (all_turns bench q) else None)

-- the number of the caller's recorded calls is the seat's, and the seat has seen no number beyond the last
abbrev pub SeatFits : LockedView → SeatView → Type 0
SeatFits locked seat = (all_turns locked.bench seat.caller ≡ seat.turns) × (seat.seen ≤ last_number locked.bench)
