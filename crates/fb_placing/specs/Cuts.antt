-- Links between blocks with different homes.
use Rattle.std.specs.{Prelude.{ℕ, Bool, true, false, not, List, filter, Option, Some, None}, Str.{bytes_eq}}
use Rattle.fb_network.specs.{declared.flat.Link.{Link}, Prefixes.{nearest}}
use Rattle.fb_placing.specs.{declared.homes.Home.{Home}, FirstEntry.{first_at}}

-- the home of the block at a path
abbrev pub home_at : List Home → List ℕ → Option (List ℕ)
home_at homes path = first_at (λ h. h.path) (λ h. h.resource) homes path

abbrev pub same_home : Option (List ℕ) → Option (List ℕ) → Bool
same_home None None = true
same_home None (Some b) = false
same_home (Some a) None = false
same_home (Some a) (Some b) = bytes_eq a b

-- Whether the homes of the two ends differ, where blocks have these homes. The home of an end is that of its block, whose path is
-- a prefix of it.
abbrev pub is_cut : (List ℕ → Option (List ℕ)) → Link → Bool
is_cut homes link = not (same_home (nearest homes link.from) (nearest homes link.to))

-- the links whose two homes differ, in the order of the links
abbrev pub cuts_of : (List ℕ → Option (List ℕ)) → List Link → List Link
cuts_of homes links = filter (is_cut homes) links
