-- What the server prints.
use Rattle.std.specs.{Prelude.{◌≡◌, ◌<◌, ◌^◌, ℕ, [], ◌∷◌, ◌++◌, Bool, List, codes, take, true}, Fmt.{decimal}}

-- the address at which it listens
abbrev pub greeting : ℕ → List ℕ
greeting port = codes "listening on 127.0.0.1:" ++ (decimal port ++ 10 ∷ [])

abbrev pub farewell : List ℕ
farewell = codes "closed" ++ 10 ∷ []

-- A server that closes prints both lines, for some port. Any other prints a prefix of them.
abbrev pub SaysLines : (is_closed : Bool) → List ℕ → List ℕ → Type 0
SaysLines is_closed old new =
    (port : ℕ) × (port < 2 ^ 16)
    × (is_closed ≡ true → new ≡ old ++ (greeting port ++ farewell))
    × ((n : ℕ) × (new ≡ old ++ take n (greeting port ++ farewell)))
