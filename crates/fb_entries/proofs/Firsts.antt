-- A set without a first key has none.
use Rattle.std.proofs.Common.{◌≡◌, ◌<◌, false, List, [], ◌∷◌, length, refl, None, IsSome, arith}
use Rattle.std.specs.{List.{list_any}, BTreeMap.{is_at}}
use Rattle.fb_jobs.specs.{declared.keys.key.Key.{Key}, KeyOrder.{key_cmp}}

pub none_in : (keys : List Key) (q : Key) → (0 < length keys → IsSome {T = Key} None) → list_any (is_at (key_cmp q)) keys ≡ false
none_in [] q some = refl
none_in (k ∷ ks) q some = let no : IsSome {T = Key} None = some (omega arith) in cc
