-- What is at the paths of a system, at all depths, and what its mappings say of them, as the texts declare both.
use Rattle.std.specs.{Prelude.{◌≡◌, ◌≢◌, ◌↔◌, ◌≤◌, ℕ, List, [], ◌∷◌, ◌++◌, length, map, Some, Contains, codes}, List.{flat_map}}
use Rattle.fb_laws.specs.Common.{ApplicationTree, InstanceTree, MappingTree, SystemTree, TypeTree, subapplication_type, Block, Subapplication, Sources, tree_at, planned, faulty, plan_at, PlainResource, Link}
use Rattle.fb_laws.specs.{Mappings.{IsSystemAt}, Plans.{BeginsWith}}
use Rattle.fb_placing.specs.{declared.homes.Misplaced.{Misplaced}, declared.homes.Misplaced.TheVariants.{NoSuchBlock, Unmapped}}

-- ---- paths

-- A path grows name by name at its end: an application and an instance in it, then an instance in the type of the subapplication instance
-- before it.
pub data IsAtPath (sources : Sources) (system : SystemTree) : List (List ℕ) → InstanceTree → Type 0 where
  in_application :
      (application : ApplicationTree) (instance : InstanceTree)
      → Contains system.applications application → Contains application.network.instances instance
      → IsAtPath sources system (application.name.name ∷ instance.name.name ∷ []) instance
  inside :
      {path : List (List ℕ)} {outer : InstanceTree} (type : TypeTree) (instance : InstanceTree)
      → IsAtPath sources system path outer → outer.role ≡ Subapplication
      → tree_at sources outer.type_name.name ≡ Some (subapplication_type type)
      → Contains type.network.instances instance
      → IsAtPath sources system (path ++ instance.name.name ∷ []) instance

-- an application, a block or a subapplication instance is at the path; plugs and sockets are not mapped
pub data IsOfSomething (sources : Sources) (system : SystemTree) : List (List ℕ) → Type 0 where
  of_application : (application : ApplicationTree) → Contains system.applications application
      → IsOfSomething sources system (application.name.name ∷ [])
  of_block : {path : List (List ℕ)} (instance : InstanceTree)
      → IsAtPath sources system path instance → instance.role ≡ Block → IsOfSomething sources system path
  of_subapplication : {path : List (List ℕ)} (instance : InstanceTree)
      → IsAtPath sources system path instance → instance.role ≡ Subapplication
      → IsOfSomething sources system path

-- the names with a point before each but the first
abbrev pub with_points : List (List ℕ) → List ℕ
with_points [] = []
with_points (first ∷ others) = first ++ flat_map (λ name. 46 ∷ name) others

-- ---- mappings

abbrev pub path_of : MappingTree → List (List ℕ)
path_of mapping = map (λ n. n.name) mapping.path

-- the mapping's path is not empty, and this path is it or continues it
pub record IsAbove (mapping : MappingTree) (path : List (List ℕ)) : Type 0 where
  pub written : path_of mapping ≢ []
  pub inner : List (List ℕ)
  pub goes_on : path ≡ path_of mapping ++ inner

-- the nearest mapping of this path or above it names this resource, as DEVICE.RESOURCE
pub record IsMappedTo (system : SystemTree) (path : List (List ℕ)) (resource : List ℕ) : Type 0 where
  pub mapping : MappingTree
  pub listed : Contains system.mappings mapping
  pub above : IsAbove mapping path
  pub nearest : (other : MappingTree) → Contains system.mappings other → IsAbove other path
      → length (path_of other) ≤ length (path_of mapping)
  pub names : mapping.device.name ++ 46 ∷ mapping.resource.name ≡ resource

-- ---- what is made where

-- the command that makes a block
abbrev pub making : List (List ℕ) → InstanceTree → List ℕ
making path block = codes "CREATE FB " ++ with_points path ++ 32 ∷ block.type_name.name

-- the command makes a block that is mapped to this resource
pub record MakesMapped (sources : Sources) (system : SystemTree) (resource command : List ℕ) : Type 0 where
  pub path : List (List ℕ)
  pub block : InstanceTree
  pub stands : IsAtPath sources system path block
  pub is_block : block.role ≡ Block
  pub mapped : IsMappedTo system path resource
  pub makes : command ≡ making path block

-- one of these resources has the command that makes the block, and it is the one that the block is mapped to
pub record IsMade (system : SystemTree) (resources : List PlainResource) (path : List (List ℕ)) (block : InstanceTree) : Type 0 where
  pub entry : PlainResource
  pub listed : Contains resources entry
  pub mapped : IsMappedTo system path entry.name
  pub made : Contains entry.commands (making path block)

-- what is so of each system with a plan that has commands
abbrev pub HoldsOfPlans : (Sources → SystemTree → List PlainResource → Type 0) → Type 0
HoldsOfPlans Fact =
    (sources : Sources) (unit : List ℕ) (system : SystemTree) (cuts : List Link) (resources : List PlainResource)
    → IsSystemAt sources unit system → plan_at sources unit ≡ Some (planned cuts resources)
    → Fact sources system resources

-- a resource has the command that makes a block where the block is mapped to it, and nowhere else
abbrev pub BlocksAreMadeWhereMapped : Type 0
BlocksAreMadeWhereMapped = HoldsOfPlans (λ sources system resources.
    (entry : PlainResource) → Contains resources entry
    → (path : List (List ℕ)) (block : InstanceTree) → IsAtPath sources system path block → block.role ≡ Block
    → Contains entry.commands (making path block) ↔ IsMappedTo system path entry.name)

-- each block is made on a resource
abbrev pub AllBlocksAreMade : Type 0
AllBlocksAreMade = HoldsOfPlans (λ sources system resources.
    (path : List (List ℕ)) (block : InstanceTree) → IsAtPath sources system path block → block.role ≡ Block
    → IsMade system resources path block)

-- and nothing else is
abbrev pub OnlyBlocksAreMade : Type 0
OnlyBlocksAreMade = HoldsOfPlans (λ sources system resources.
    (entry : PlainResource) → Contains resources entry
    → (command : List ℕ) → Contains entry.commands command → BeginsWith (codes "CREATE FB ") command
    → MakesMapped sources system entry.name command)

-- ---- what is misplaced

-- a block with no mapping of it or above it, or a mapping that is of nothing
pub data IsMisplaced (sources : Sources) (system : SystemTree) : Misplaced → Type 0 where
  unmapped :
      (path : List (List ℕ)) (block : InstanceTree) → IsAtPath sources system path block → block.role ≡ Block
      → ((mapping : MappingTree) → Contains system.mappings mapping → ¬ IsAbove mapping path)
      → IsMisplaced sources system (Unmapped (with_points path))
  of_nothing :
      (mapping : MappingTree) → Contains system.mappings mapping → path_of mapping ≢ []
      → ¬ IsOfSomething sources system (path_of mapping)
      → IsMisplaced sources system (NoSuchBlock (with_points (path_of mapping)))

-- the list has what is misplaced, and it is not empty
pub record TellsMisplaced (sources : Sources) (system : SystemTree) (found : List Misplaced) : Type 0 where
  pub some : found ≢ []
  pub members : (item : Misplaced) → Contains found item ↔ IsMisplaced sources system item

-- a plan that is `faulty` names exactly what is misplaced
abbrev pub MisplacedIsTold : Type 0
MisplacedIsTold =
    (sources : Sources) (unit : List ℕ) (system : SystemTree) (found : List Misplaced)
    → IsSystemAt sources unit system → plan_at sources unit ≡ Some (faulty found)
    → TellsMisplaced sources system found

-- where a plan has commands, nothing is misplaced
abbrev pub NothingPlannedIsMisplaced : Type 0
NothingPlannedIsMisplaced =
    HoldsOfPlans (λ sources system resources. (item : Misplaced) → ¬ IsMisplaced sources system item)
