-- All kinds of keys, in order, and the keys of names with each of them.
use Rattle.std.specs.{Prelude.{ℕ, Bool, true, false, List, [], ◌∷◌, map, if◌then◌else◌}, List.{flat_map}}
use Rattle.fb_jobs.specs.{declared.keys.key.Kind.{Kind}, declared.keys.key.Kind.TheVariants.{Faults, Net, Deploy}, declared.keys.key.Key.{Key}}

-- the kinds, in order
abbrev pub all_kinds : List Kind
all_kinds = Faults ∷ Net ∷ Deploy ∷ []

-- whether a key of the kind needs all that its unit rests on
abbrev pub needs_all : Kind → Bool
needs_all Faults = false
needs_all Net = true
needs_all Deploy = true

abbrev pub keys_of_kind : List (List ℕ) → Kind → List Key
keys_of_kind names kind = map (λ name. record { kind = kind; unit = name }) names

-- each name with each kind, by kind and then by name
abbrev pub all_keys : List (List ℕ) → List Key
all_keys names = flat_map (keys_of_kind names) all_kinds

-- the far names for a kind whose keys need all that their units rest on, the near ones for another
abbrev pub names_for : List (List ℕ) → List (List ℕ) → Kind → List (List ℕ)
names_for nears fars kind = if needs_all kind then fars else nears

-- the names for each kind with that kind
abbrev pub keys_near_and_far : List (List ℕ) → List (List ℕ) → List Key
keys_near_and_far nears fars = flat_map (λ kind. keys_of_kind (names_for nears fars kind) kind) all_kinds
