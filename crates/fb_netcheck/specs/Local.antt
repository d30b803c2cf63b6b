-- What the faults of networks depend on.
use Rattle.std.specs.Prelude.{◌≡◌, ℕ, List}
use Rattle.fb_iface.specs.{Library.Local.{Agree}, Library.Near.{near_of}, Library.View.{Sources}}
use Rattle.fb_netcheck.specs.Networks.{net_faults_of}

-- the faults of a unit's networks depend only on the texts of what is near the unit
abbrev pub NetFaultsAreLocal : Type 0
NetFaultsAreLocal = (a b : Sources) (unit : List ℕ) → Agree (near_of a unit) a b → net_faults_of a unit ≡ net_faults_of b unit
