-- What holds of networks without faults.
use Rattle.std.specs.{Prelude.{◌≡◌, ℕ, Bool, true, false, ◌&&◌, List, [], map}, List.{All}}
use Rattle.fb_tree.specs.{Tree.{NetworkTree}, declared.interface.TypeUse.{TypeUse}, declared.kinds.UnitKind.{UnitKind}}
use Rattle.fb_tree.specs.{declared.kinds.UnitKind.TheVariants.{Subapplication}, declared.network.Connection.{Connection}}
use Rattle.fb_iface.specs.{Library.View.{Sources, tree_at}, Declarations.{iface_faults_of}, Ports.{same_side}}
use Rattle.fb_netcheck.specs.{declared.ends.Position.{Position}, declared.ends.Position.TheVariants.{Source, Destination}, declared.ends.Target.{Target}}
use Rattle.fb_netcheck.specs.{declared.ends.Target.TheVariants.{Unknown, NotChecked, Found}, Ends.{is_right, right_side, target}}
use Rattle.fb_netcheck.specs.{Networks.{net_faults_of, networks_in}, Paths.{repeated}, Repeats.{all_adapter_ends, data_destinations, end_path}}
use Rattle.fb_netcheck.specs.{Settings.{NetworkPlace}, Sides.{is_own_port}, Types.{same_at_ends, targets_agree}}

-- an end names a port of the right side, or one of a type that is not usable
abbrev pub IsCleanEnd : Position → Target → Type 0
IsCleanEnd position Unknown = ⊥
IsCleanEnd position NotChecked = Unit {0}
IsCleanEnd position (Found holder port) = same_side port.side (right_side position holder) ≡ true

-- in a subapplication, these are not two own ports of the right sides
abbrev pub PassesNothing : UnitKind → Target → Target → Type 0
PassesNothing Subapplication source destination = (is_own_port Source source && is_own_port Destination destination) ≡ false
PassesNothing kind source destination = Unit {0}

-- a connection whose ends name these; the test compares types
pub record IsClean (kind : UnitKind) (same : TypeUse → TypeUse → Bool) (source destination : Target) : Type 0 where
  pub source_side : IsCleanEnd Source source
  pub destination_side : IsCleanEnd Destination destination
  -- ports of the right sides are of one type: of one data type, or of one adapter type
  pub one_type : is_right Source source ≡ true → is_right Destination destination ≡ true → targets_agree same source destination ≡ true
  pub passes_nothing : PassesNothing kind source destination

abbrev pub IsCleanConnection : Sources → NetworkPlace → Connection → Type 0
IsCleanConnection sources here c = IsClean here.kind (same_at_ends sources here c) (target here c.sort c.source) (target here c.sort c.destination)

pub record IsCleanNetwork (sources : Sources) (here : NetworkPlace) (n : NetworkTree) : Type 0 where
  pub connections : All (IsCleanConnection sources here) n.connections
  -- each data destination has one source, and each adapter end one other end
  pub one_source : repeated (map end_path (data_destinations n.connections)) ≡ []
  pub one_adapter : repeated (map end_path (all_adapter_ends n.connections)) ≡ []

-- the networks of a unit without faults are clean
abbrev pub FaultlessNetworksAreClean : Type 0
FaultlessNetworksAreClean =
    (sources : Sources) (unit : List ℕ) → net_faults_of sources unit ≡ []
    → All (λ (placed : NetworkPlace × NetworkTree). IsCleanNetwork sources placed.0 placed.1) (networks_in sources unit (tree_at sources unit))

-- Both ends name ports of the right sides: a clean connection whose types are usable.
abbrev pub AreRight : NetworkPlace → Connection → Type 0
AreRight here c = (is_right Source (target here c.sort c.source) ≡ true) × (is_right Destination (target here c.sort c.destination) ≡ true)

-- if no check of declarations and of networks reports a fault, each type is usable, and each end names a port of the right side
abbrev pub ConnectionsAreRight : Type 0
ConnectionsAreRight =
    (sources : Sources) (unit : List ℕ) → iface_faults_of sources unit ≡ [] → net_faults_of sources unit ≡ []
    → All (λ (placed : NetworkPlace × NetworkTree). All (AreRight placed.0) placed.1.connections) (networks_in sources unit (tree_at sources unit))
