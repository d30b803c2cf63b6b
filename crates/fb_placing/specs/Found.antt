-- Blocks that were found.
use Rattle.std.specs.Prelude.{ℕ, ◌≡◌, ◌++◌, List, Some, string_bytes}
use Rattle.fb_network.specs.Prefixes.{nearest}
use Rattle.fb_placing.specs.{HomeTable.{ByPath, IsKnown, home_by_path}, declared.homes.end_finder.FoundBlock.{FoundBlock}}

-- the block's home, if it has one, is what the table has for its path
abbrev pub IsFound : ByPath → FoundBlock → Type 0
IsFound by_path block = IsKnown by_path (string_bytes block.path) block.home

-- the home of the path that these two parts make
abbrev pub IsHome : ByPath → List ℕ → List ℕ → List ℕ → Type 0
IsHome by_path start end home = nearest (home_by_path by_path) (start ++ end) ≡ Some home
