-- Laws of nets.
use Rattle.std.specs.Prelude.{ℕ, ◌≡◌, List}
use Rattle.fb_types.specs.{Library.View.{Sources}, Library.Local.{AgreeFar}}
use Rattle.fb_flatten.specs.Net.{PlainNet, IsNet}

-- a unit has one net only
abbrev pub OneNet : Type 0
OneNet = (sources : Sources) (unit : List ℕ) (a b : PlainNet) → IsNet sources unit a → IsNet sources unit b → a ≡ b

-- the net of a unit depends only on the texts that the unit rests on
abbrev pub NetIsLocal : Type 0
NetIsLocal = (a b : Sources) (unit : List ℕ) → AgreeFar unit a b → (net : PlainNet) → IsNet a unit net → IsNet b unit net
