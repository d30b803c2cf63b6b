-- What small steps write to entries and to sets of keys.
use Rattle.std.specs.{Prelude.{◌≡◌, Bool, true, false, List, map, filter, Option, Some, None, is_none, if◌then◌else◌}, List.{list_any}, Option.{option_map}}
use Rattle.std.specs.{declared.sync.Arc.{Arc}, declared.alloc.Global.{Global}}
use Rattle.fb_jobs.specs.{declared.keys.key.Key.{Key}, declared.values.value.Value.{Value}, KeyOrder.{same_key}, Reads.{PlainJob}, Finished.{value_of}, Keys.{Finding}}
use Rattle.fb_entries.specs.declared.entry.Entry.{Entry}

-- whether the key is one of these
abbrev pub is_of : Key → List Key → Bool
is_of key keys = list_any (same_key key) keys

-- ---- entries

-- an entry that waits for a result
abbrev pub blank : Arc Key Global → Entry
blank key = record { key = key; is_pending = true; out = false; found = None; last = None }

-- its value: what the last one was computed from gives, unless it is pending
abbrev pub value_in : Entry → Option Finding
value_in it = if it.is_pending then None else option_map value_of it.last

-- an entry that has no value
abbrev pub is_unkept : Entry → Bool
is_unkept it = is_none (value_in it)

-- an entry that is handed out
abbrev pub is_handed_out : Entry → Bool
is_handed_out it = it.out

-- the keys whose entries pass, in order
abbrev pub keys_with : (Entry → Bool) → List (Key × Entry) → List Key
keys_with passes entries = map (λ (e : Key × Entry). e.0) (filter (λ (e : Key × Entry). passes e.1) entries)

-- an entry with this handed-out mark
abbrev pub with_out : Bool → Entry → Entry
with_out out it = record it { out = out }

-- an entry that is not handed out, with the value that this gives
abbrev pub with_value : PlainJob → Entry → Entry
with_value made it = record it { is_pending = false; out = false; found = None; last = Some made }

-- what was found for an entry that has no value
abbrev pub unless_kept : Option Finding → Arc Value Global → Option (Arc Value Global)
unless_kept None found = Some found
unless_kept (Some value) found = None

-- an entry for which this was found
abbrev pub with_found : Arc Value Global → Entry → Entry
with_found found it = record it { found = unless_kept (value_in it) found }

-- an entry that waits for a result again: what was found for it is gone
abbrev pub waiting : Entry → Entry
waiting it = record it { is_pending = true; out = false; found = None }

-- the entry of a key, which waits for a result again if it is renewed
abbrev pub waiting_if : Bool → Option Entry → Option Entry
waiting_if renewed it = if renewed then option_map waiting it else it

-- ---- how entries and sets of keys change, key by key

-- the entry of each key
abbrev pub Entries : Type 0
Entries = Key → Option Entry

-- whether each key is in a set
abbrev pub Keys : Type 0
Keys = Key → Bool

-- the key has this entry, and no other is changed
abbrev pub PutsEntry : Key → Entry → Entries → Entries → Type 0
PutsEntry key entry old new = (other : Key) → new other ≡ (if same_key key other then Some entry else old other)

-- the key no longer has an entry, and no other is changed
abbrev pub LosesEntry : Key → Entries → Entries → Type 0
LosesEntry key old new = (other : Key) → new other ≡ (if same_key key other then None else old other)

-- the entry of the key, if there is one, is changed, and no other
abbrev pub ChangesEntry : Key → (Entry → Entry) → Entries → Entries → Type 0
ChangesEntry key change old new =
    (other : Key) → new other ≡ (if same_key key other then option_map change (old other) else old other)

-- the entry of the key, if there is one, waits for a result, and no other is changed
abbrev pub RenewsEntry : Key → Entries → Entries → Type 0
RenewsEntry key old new = (other : Key) → new other ≡ waiting_if (same_key key other) (old other)

-- the entry of each of these keys, if there is one, waits for a result, and no other is changed
abbrev pub RenewsEntries : List Key → Entries → Entries → Type 0
RenewsEntries keys old new = (other : Key) → new other ≡ waiting_if (is_of other keys) (old other)

-- these keys no longer have an entry, and no other entry is changed
abbrev pub LosesEntries : List Key → Entries → Entries → Type 0
LosesEntries keys old new = (other : Key) → new other ≡ (if is_of other keys then None else old other)

-- no entry is changed but those of these keys
abbrev pub KeepsOtherEntries : List Key → Entries → Entries → Type 0
KeepsOtherEntries keys old new = (other : Key) → is_of other keys ≡ false → new other ≡ old other

-- each of these keys has an entry
abbrev pub HasEntries : List Key → Entries → Type 0
HasEntries keys entries = (other : Key) → is_of other keys ≡ true → is_none (entries other) ≡ false

-- ---- sets of keys

-- both have the same keys
abbrev pub SameKeys : Keys → Keys → Type 0
SameKeys old new = (other : Key) → new other ≡ old other

-- the key is in the set now or not, and nothing else changes
abbrev pub MarksKey : Key → Bool → Keys → Keys → Type 0
MarksKey key mark old new = (other : Key) → new other ≡ (if same_key key other then mark else old other)

-- these keys are no longer in the set, and nothing else changes
abbrev pub LosesKeys : List Key → Keys → Keys → Type 0
LosesKeys keys old new = (other : Key) → new other ≡ (if is_of other keys then false else old other)

-- no key has joined or left but these
abbrev pub KeepsOtherKeys : List Key → Keys → Keys → Type 0
KeepsOtherKeys keys old new = (other : Key) → is_of other keys ≡ false → new other ≡ old other

-- each of these keys is in the set
abbrev pub HasKeys : List Key → Keys → Type 0
HasKeys keys members = (other : Key) → is_of other keys ≡ true → members other ≡ true
