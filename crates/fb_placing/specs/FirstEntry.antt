-- What texts mean: of several entries for a text the first counts.
use Rattle.std.specs.{Prelude.{ℕ, List, Option, option_map, find}, Str.{bytes_eq}}

-- what a text means: the value of the first item that has the text as its key
abbrev pub first_at : {X Y : Type 0} → (X → List ℕ) → (X → Y) → List X → List ℕ → Option Y
first_at key value items text = option_map value (find (λ item. bytes_eq (key item) text) items)
