-- What a history keeps.
use Rattle.std.specs.Prelude.{◌≡◌, ℕ, ◌+◌, ◌^◌, ◌≤◌, ◌<◌, length}
use Rattle.std.specs.BTreeMap as tree
use Rattle.fb_history.specs.{Events.{last_event_of}, BenchView.{BenchView, AreTurns, on_page, pages_after}}

-- the kept pages are those of all calls, those before included, the kept number is that of the last event, and no number is beyond 64 bits
pub record IsCounted (turns : tree.BTreeMap ℕ ℕ) (last_event : ℕ) (bench : BenchView) : Type 0 where
  pub pages_are : turns.entries ≡ pages_after bench.origin.pages bench.log.records
  pub within : length bench.log.records ≤ bench.log.limit
  pub fits : bench.origin.before + bench.log.limit < 2 ^ 64
  pub pages_fit : (caller : ℕ) → on_page bench.origin.pages caller ≤ bench.origin.before
  pub turns_are : AreTurns bench
  pub event_is : last_event ≡ last_event_of bench
