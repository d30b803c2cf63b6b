-- Homes by the paths of blocks.
use Rattle.std.specs.{Prelude.{ℕ, ◌≡◌, List, Option, Some, option_map}, Borrow.{Bor}, HashMap.{HashMap, get_by}, Str.{bytes_eq}}
use Rattle.std.specs.{declared.hash.FoldHasher.{FoldHasher}, declared.hash.BuildHasherDefault.{BuildHasherDefault}}

abbrev pub ByPath : Type 0
ByPath = HashMap (Bor (List ℕ)) (Bor (List ℕ)) (BuildHasherDefault FoldHasher)

-- the resource that a table has for a path
abbrev pub home_by_path : ByPath → List ℕ → Option (List ℕ)
home_by_path by_path path = option_map (λ r. r.now) (get_by (λ k. bytes_eq path k.now) by_path)

-- the resource, if there is one, is what the table has for the path
abbrev pub IsKnown : ByPath → List ℕ → Option (Bor (List ℕ)) → Type 0
IsKnown by_path path resource = (r : Bor (List ℕ)) → resource ≡ Some r → home_by_path by_path path ≡ Some r.now
