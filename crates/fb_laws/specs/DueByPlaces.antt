-- When a key waits, stated only by places in the list of calls.
use Rattle.std.specs.Prelude.{◌≡◌, ℕ, ◌<◌, true, ◌⊎◌, ◌↔◌, List, Some, take, slice_get}
use Rattle.fb_jobs.specs.declared.keys.key.Key.{Key}
use Rattle.fb_history.specs.{Limits.{Bounds}, Machine.{State, Call}, BenchView.{BenchView, replay}, Due.{marks, settles, due_from, is_due}, Checkpoints.{checkpointed}}

-- the call at a place, and that it marks the key where the calls before it have led
abbrev pub IsMarkedAt : State → List Call → Key → ℕ → Type 0
IsMarkedAt state calls key place = (call : Call) × (slice_get calls place ≡ Some call) × (marks (replay state (take place calls)) call key ≡ true)

-- the same, that it settles the key
abbrev pub IsSettledAt : State → List Call → Key → ℕ → Type 0
IsSettledAt state calls key place = (call : Call) × (slice_get calls place ≡ Some call) × (settles (replay state (take place calls)) call key ≡ true)

-- a place marks the key, and no later one marks or settles it
pub record IsMarkedLast (state : State) (calls : List Call) (key : Key) : Type 0 where
  pub place : ℕ
  pub marked : IsMarkedAt state calls key place
  pub last : (later : ℕ) → place < later → IsMarkedAt state calls key later → ⊥
  pub unsettled : (later : ℕ) → place < later → IsSettledAt state calls key later → ⊥

-- the key is pending where the calls begin, and no place marks or settles it
pub record IsLeftPending (state : State) (calls : List Call) (key : Key) : Type 0 where
  pub pending : state.pending key ≡ true
  pub unmarked : (place : ℕ) → IsMarkedAt state calls key place → ⊥
  pub unsettled : (place : ℕ) → IsSettledAt state calls key place → ⊥

-- ---- laws

abbrev pub IsDueByPlaces : State → List Call → Key → Type 0
IsDueByPlaces state calls key = (due_from state calls key ≡ true) ↔ (IsMarkedLast state calls key ⊎ IsLeftPending state calls key)

-- a key waits after a checkpoint exactly if it waits before
abbrev pub DueGoesOn : Bounds → BenchView → Type 0
DueGoesOn limits bench = (key : Key) → is_due (checkpointed limits bench) key ≡ is_due bench key
