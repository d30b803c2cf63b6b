-- Places as they are printed.
use Rattle.std.specs.Prelude.{ℕ, List, [], ◌∷◌}
use Rattle.fb_network.specs.{Places.{dotted}, Network.{Place}}

-- the names joined by points
abbrev pub printed : Place → List ℕ
printed [] = []
printed (x ∷ []) = x
printed (x ∷ (y ∷ a)) = dotted x (printed (y ∷ a))
