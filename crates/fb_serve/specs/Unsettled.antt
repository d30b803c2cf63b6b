-- A job that was taken and not settled, and keys that are held.
use Rattle.std.specs.Prelude.{◌≡◌, ◌-◌, Bool, List, Some, length, not, slice_get}
use Rattle.fb_wire.specs.History.Machine.{OfTake}
use Rattle.fb_shared.specs.{Locked.Jobs.{KeyOrder.{same_key}, Reads.{PlainJob}, declared.keys.key.Key.{Key}}, Locked.Seats.{ReceiptView}}
use Rattle.fb_serve.specs.declared.caller_state.Held.{Held}

-- the last of the receipts is of a call that took the job
abbrev pub IsLastTake : List ReceiptView → ReceiptView → PlainJob → Type 0
IsLastTake receipts last job = (slice_get receipts (length receipts - 1) ≡ Some last) × (last.entry.reply ≡ OfTake (Some job))

abbrev pub is_another_key : Key → Held → Bool
is_another_key key it = not (same_key it.key key)
