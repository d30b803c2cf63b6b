-- The items for each resource.
use Rattle.std.specs.Prelude.{ℕ, ◌≡◌, ◌≢◌, ◌<◌, ◌==◌, if◌then◌else◌, List, [], ◌∷◌, ◌++◌, Option, Some, Vec, filter, map, option_map, slice_get}
use Rattle.std.specs.{Str.{bytes_eq}, declared.alloc.Global.{Global}}
use Rattle.fb_placing.specs.{declared.plan.command_index.CommandIndex.{CommandIndex}, declared.plan.assigned_commands.AssignedCommand.{AssignedCommand}}

-- the name is at the place, and at none before
abbrev pub IsFirstPlace : List (List ℕ) → ℕ → List ℕ → Type 0
IsFirstPlace names place name = (slice_get names place ≡ Some name) × ((k : ℕ) → k < place → slice_get names k ≢ Some name)

-- the name is at no place
abbrev pub IsNowhere : List (List ℕ) → List ℕ → Type 0
IsNowhere names name = (k : ℕ) → slice_get names k ≢ Some name

-- the name at the place is at none before
abbrev pub IsFirst : List (List ℕ) → ℕ → Type 0
IsFirst names place = (name : List ℕ) → slice_get names place ≡ Some name → IsFirstPlace names place name

-- the items of a list
abbrev pub indexes_at : List (Vec CommandIndex Global) → ℕ → Option (List CommandIndex)
indexes_at lists place = option_map (λ l. l.items) (slice_get lists place)

-- one item more in a list
abbrev pub indexes_more : (ℕ → Option (List CommandIndex)) → ℕ → CommandIndex → ℕ → Option (List CommandIndex)
indexes_more lists place item k = if k == place then option_map (λ items. items ++ item ∷ []) (lists k) else lists k

-- the items of the commands for a resource, in their order
abbrev pub indexes_of : List AssignedCommand → List ℕ → List CommandIndex
indexes_of commands name = map (λ o. o.index) (filter (λ o. bytes_eq name o.resource.now) commands)

-- at the first place of each name is the list of its items
abbrev pub AreListed : List (List ℕ) → (ℕ → Option (List CommandIndex)) → List AssignedCommand → Type 0
AreListed names lists commands = (place : ℕ) (name : List ℕ) → IsFirstPlace names place name → lists place ≡ Some (indexes_of commands name)
