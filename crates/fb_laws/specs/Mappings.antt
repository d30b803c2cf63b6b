-- Each code of mappings in other words: where the list of faults has it.
use Rattle.std.specs.Prelude.{◌≡◌, ◌≢◌, ℕ, List, [], ◌∷◌, ◌++◌, map, Some, Contains}
use Rattle.fb_laws.specs.Common.{NameUse, Span, DeviceTree, MappingTree, ResourceTree, SystemTree, system_configuration, Sources, tree_at, MappedTwice, NoSuchResource}
use Rattle.fb_laws.specs.UnitParts.{IsReportedWhere, Mappings}

-- the unit is a system, and this its declaration
abbrev pub IsSystemAt : Sources → List ℕ → SystemTree → Type 0
IsSystemAt sources unit s = tree_at sources unit ≡ Some (system_configuration s)

-- two mappings of the same path, name by name
abbrev pub HaveSamePaths : MappingTree → MappingTree → Type 0
HaveSamePaths a b = map (λ n. n.name) a.path ≡ map (λ n. n.name) b.path

-- the last of some names
abbrev pub last_of : NameUse → List NameUse → NameUse
last_of first [] = first
last_of first (next ∷ others) = last_of next others

-- from the first name of a path through its last; a path that is written has one
abbrev pub place_of_path : List NameUse → Span
place_of_path [] = record { start = 0; end = 0 }
place_of_path (first ∷ others) = record { start = first.span.start; end = (last_of first others).span.end }

-- a mapping whose path is that of an earlier mapping of the system
pub record HasSecondMapping (sources : Sources) (unit : List ℕ) (span : Span) : Type 0 where
  pub system : SystemTree
  pub declared : IsSystemAt sources unit system
  pub before : List MappingTree
  pub again : MappingTree
  pub after : List MappingTree
  pub listed : system.mappings ≡ before ++ again ∷ after
  pub first : MappingTree
  pub earlier : Contains before first
  pub same : HaveSamePaths first again
  pub place : span ≡ place_of_path again.path

-- the first of the devices of this name
pub record IsFirstDevice (devices : List DeviceTree) (name : List ℕ) (device : DeviceTree) : Type 0 where
  pub before : List DeviceTree
  pub after : List DeviceTree
  pub listed : devices ≡ before ++ device ∷ after
  pub named : device.name.name ≡ name
  pub none_before : (other : DeviceTree) → Contains before other → other.name.name ≢ name

-- the system has no device of the name that the mapping gives, or its first device of that name no resource of the name that the mapping gives
pub data IsLost (system : SystemTree) (mapping : MappingTree) : Type 0 where
  no_device : ((device : DeviceTree) → Contains system.devices device → device.name.name ≢ mapping.device.name)
      → IsLost system mapping
  no_resource : (device : DeviceTree) → IsFirstDevice system.devices mapping.device.name device
      → ((resource : ResourceTree) → Contains device.resources resource → resource.name.name ≢ mapping.resource.name)
      → IsLost system mapping

-- a mapping to a device that the system doesn't have, or to a resource that the device doesn't have
pub record HasLostMapping (sources : Sources) (unit : List ℕ) (span : Span) : Type 0 where
  pub system : SystemTree
  pub declared : IsSystemAt sources unit system
  pub mapping : MappingTree
  pub listed : Contains system.mappings mapping
  pub lost : IsLost system mapping
  pub starts : span.start ≡ mapping.device.span.start
  pub ends : span.end ≡ mapping.resource.span.end

abbrev pub MappingsHaveOwnPaths : Type 0
MappingsHaveOwnPaths = IsReportedWhere Mappings MappedTwice HasSecondMapping

abbrev pub MappingsHaveHomes : Type 0
MappingsHaveHomes = IsReportedWhere Mappings NoSuchResource HasLostMapping
