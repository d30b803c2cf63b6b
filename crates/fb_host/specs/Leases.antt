-- What happens to the keys that sessions have taken.
use Rattle.std.specs.Prelude.{◌++◌, ◌∷◌, [], ◌==◌, ◌||◌, if◌then◌else◌, ℕ, Bool, List, nat_lt, not}
use Rattle.fb_locked.specs.Jobs.{KeyOrder.{same_key}, declared.keys.key.Key.{Key}}
use Rattle.fb_host.specs.declared.leases.Lease.{Lease}

abbrev pub is_of_others : ℕ → Lease → Bool
is_of_others caller lease = not (lease.caller == caller)

-- it was taken by another call
abbrev pub is_other_call : (caller since : ℕ) → Lease → Bool
is_other_call caller since lease = is_of_others caller lease || not (lease.held.since == since)

-- it is not settled by the call of a number: it is another key, or was taken later
abbrev pub is_unsettled : Key → (number : ℕ) → Lease → Bool
is_unsettled key number lease = not (same_key lease.held.key key) || nat_lt number lease.held.since

-- it is another key, or another caller's
abbrev pub is_another : ℕ → Key → Lease → Bool
is_another caller key lease = is_of_others caller lease || not (same_key lease.held.key key)

-- these, and the new one after them if there is memory
abbrev pub with_lease : Lease → (has_memory : Bool) → List Lease → List Lease
with_lease lease has_memory others = if has_memory then others ++ lease ∷ [] else others
