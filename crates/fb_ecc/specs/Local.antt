-- What the faults of a chart depend on.
use Rattle.std.specs.Prelude.{◌≡◌, ℕ, List}
use Rattle.fb_iface.specs.{Library.Local.{Agree}, Library.Near.{near_of}, Library.View.{Sources}}
use Rattle.fb_ecc.specs.Charts.{ecc_faults_of}

-- the faults of a unit's chart depend only on the texts of what is near it
abbrev pub EccIsLocal : Type 0
EccIsLocal = (a b : Sources) (unit : List ℕ) → Agree (near_of a unit) a b → ecc_faults_of a unit ≡ ecc_faults_of b unit
