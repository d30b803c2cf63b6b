-- Systems with a plan, and their plans in other words.
use Rattle.fb_laws.specs.Common.{MappingTree, Sources, tree_at, FlatBlock, Link, PlainFlat, HasFlat, leads_nowhere, applications_in, mappings_in, planned, PlainResource, plan_at, ParameterTree, SystemTree, system_configuration, text_or_empty, PlainResolved, path_names, resolved_at}
use Rattle.std.specs.{Prelude.{◌≡◌, ◌≤◌, ℕ, false, List, length, Some, Contains, ◌≢◌, ◌↔◌, ◌⊎◌, [], ◌∷◌, ◌++◌, map, codes}, List.{flat_map}, List.Sorted.{IsStrictlySortedBy}}
use Rattle.fb_types.specs.{Network.Prefixes.{IsPrefix, IsNearest}, Network.LinkOrder.{link_cmp}, Network.Places.{dotted}}
use Rattle.fb_placing.specs.{Mappings.{names_used, resource_at}, PlacedCommands.{create_text, command_cmp, write_text}, SystemCommands.{connection_text}, ConstantTexts.{written}}
use Rattle.fb_placing.specs.declared.plan.write_commands.PlacedCommand.{PlacedCommand}
use Rattle.fb_deploy.specs.Mapping.Placed.{IsSystem}

-- the system has this flat network, and its plan has these cut links and these resources with their commands
pub record IsPlanned (sources : Sources) (system : List ℕ) (flat : PlainFlat) (cuts : List Link) (resources : List PlainResource) : Type 0 where
  pub is_flat : HasFlat sources system flat
  pub plan : plan_at sources system ≡ Some (planned cuts resources)

-- The home of what is at a path is the resource of the mapping with the longest path that is this path or a prefix of it by whole
-- names.
abbrev pub IsHome : Sources → List ℕ → List ℕ → List ℕ → Type 0
IsHome sources system path resource =
    IsNearest (resource_at (mappings_in (tree_at sources system))) path (Some resource)

-- the block at an end of a link: its path is the longest of those that are prefixes of the end by whole names
pub record IsBlockAt (blocks : List FlatBlock) (end : List ℕ) (block : FlatBlock) : Type 0 where
  pub listed : Contains blocks block
  pub prefix : IsPrefix block.path end
  pub longest : (other : FlatBlock) → Contains blocks other → IsPrefix other.path end
      → length other.path ≤ length block.path

-- an end of a link is on the home of the block at this end
pub record StandsOn (sources : Sources) (system : List ℕ) (blocks : List FlatBlock) (end resource : List ℕ) : Type 0 where
  pub block : FlatBlock
  pub is_at : IsBlockAt blocks end block
  pub home : IsHome sources system block.path resource

-- Nothing of the system is misplaced: each block has a home, and each mapping is of an application, a block or a subapplication instance.
pub record IsPlacedWhole (sources : Sources) (system : List ℕ) (flat : PlainFlat) : Type 0 where
  pub homes : (block : FlatBlock) → Contains flat.blocks block
      → (resource : List ℕ) × IsHome sources system block.path resource
  pub mappings :
      (m : MappingTree) → Contains (mappings_in (tree_at sources system)) m
      → leads_nowhere sources system (applications_in (tree_at sources system)) (names_used m.path) ≡ false

-- the system has a plan with cut links and resources
pub record HasCommands (sources : Sources) (system : List ℕ) (flat : PlainFlat) : Type 0 where
  pub cuts : List Link
  pub resources : List PlainResource
  pub is_planned : IsPlanned sources system flat cuts resources

-- ---- cuts

-- its ends are on different resources
pub record JoinsResources (sources : Sources) (system : List ℕ) (flat : PlainFlat) (link : Link) : Type 0 where
  pub from_home : List ℕ
  pub to_home : List ℕ
  pub from : StandsOn sources system flat.blocks link.from from_home
  pub to : StandsOn sources system flat.blocks link.to to_home
  pub differ : from_home ≢ to_home

-- the links of the flat network that join resources, in its order, each once
pub record AreCuts (sources : Sources) (system : List ℕ) (flat : PlainFlat) (cuts : List Link) : Type 0 where
  pub members : (link : Link)
      → Contains cuts link ↔ (Contains flat.links link × JoinsResources sources system flat link)
  pub in_order : IsStrictlySortedBy link_cmp cuts

-- ---- commands

abbrev pub BeginsWith : List ℕ → List ℕ → Type 0
BeginsWith start text = (rest : List ℕ) × (text ≡ start ++ rest)

-- all commands of the list begin with these bytes
abbrev pub AllBegin : List ℕ → List (List ℕ) → Type 0
AllBegin start commands = (command : List ℕ) → Contains commands command → BeginsWith start command

-- none of them does
abbrev pub NoneBegins : List ℕ → List (List ℕ) → Type 0
NoneBegins start commands = (command : List ℕ) → Contains commands command → ¬ BeginsWith start command

-- the line that makes a block whose home is this resource
pub record MakesBlock (sources : Sources) (system : List ℕ) (flat : PlainFlat) (resource : List ℕ) (line : PlacedCommand) : Type 0 where
  pub block : FlatBlock
  pub listed : Contains flat.blocks block
  pub home : IsHome sources system block.path resource
  pub place : line.place ≡ block.path
  pub command : line.command ≡ create_text block.path block.type_name
  pub on_home : line.resource ≡ resource

-- The commands of a resource make the blocks whose home it is, by the bytes of their paths, each once; no other command makes a block.
pub record MakesItsBlocks (sources : Sources) (system : List ℕ) (flat : PlainFlat) (entry : PlainResource) : Type 0 where
  pub lines : List PlacedCommand
  pub others : List (List ℕ)
  pub commands : entry.commands ≡ map (λ l. l.command) lines ++ others
  pub members : (line : PlacedCommand) → Contains lines line ↔ MakesBlock sources system flat entry.name line
  pub in_order : IsStrictlySortedBy command_cmp lines
  pub no_others : NoneBegins (codes "CREATE FB ") others

-- the line that sets a parameter of a block whose home is this resource, to the constant that the text of the block's instance has
pub record SetsParameter (sources : Sources) (system : List ℕ) (flat : PlainFlat) (resource : List ℕ) (line : PlacedCommand) : Type 0 where
  pub block : FlatBlock
  pub listed : Contains flat.blocks block
  pub home : IsHome sources system block.path resource
  pub standing : PlainResolved
  pub stands : resolved_at sources system (applications_in (tree_at sources system)) (path_names block.path)
      ≡ Some standing
  pub parameter : ParameterTree
  pub given : Contains standing.instance.parameters parameter
  pub place : line.place ≡ dotted block.path parameter.name.name
  pub command : line.command
      ≡ write_text (dotted block.path parameter.name.name) (written (text_or_empty sources standing.unit) parameter.value)
  pub on_home : line.resource ≡ resource

-- The commands of a resource set the parameters of the blocks whose home it is, by the bytes of their places, each once; no other command
-- sets a parameter.
pub record SetsItsParameters (sources : Sources) (system : List ℕ) (flat : PlainFlat) (entry : PlainResource) : Type 0 where
  pub before : List (List ℕ)
  pub lines : List PlacedCommand
  pub behind : List (List ℕ)
  pub commands : entry.commands ≡ before ++ map (λ l. l.command) lines ++ behind
  pub members : (line : PlacedCommand) → Contains lines line ↔ SetsParameter sources system flat entry.name line
  pub in_order : IsStrictlySortedBy command_cmp lines
  pub none_before : NoneBegins (codes "WRITE ") before
  pub none_behind : NoneBegins (codes "WRITE ") behind

-- a link of the flat network both of whose ends are on this resource
pub record IsWithin (sources : Sources) (system : List ℕ) (flat : PlainFlat) (resource : List ℕ) (link : Link) : Type 0 where
  pub listed : Contains flat.links link
  pub from : StandsOn sources system flat.blocks link.from resource
  pub to : StandsOn sources system flat.blocks link.to resource

-- The commands of a resource make the links within it, in the order of the flat network, each once; no other command makes a link.
pub record MakesItsLinks (sources : Sources) (system : List ℕ) (flat : PlainFlat) (entry : PlainResource) : Type 0 where
  pub before : List (List ℕ)
  pub links : List Link
  pub behind : List (List ℕ)
  pub commands : entry.commands ≡ before ++ map (λ l. connection_text l.from l.to) links ++ behind
  pub members : (link : Link) → Contains links link ↔ IsWithin sources system flat entry.name link
  pub in_order : IsStrictlySortedBy link_cmp links
  pub none_before : NoneBegins (codes "CREATE CONNECTION ") before
  pub none_behind : NoneBegins (codes "CREATE CONNECTION ") behind

-- the item occurs in the list at most once
abbrev pub StandsOnce : List (List ℕ) → List ℕ → Type 0
StandsOnce items item = (before after : List (List ℕ)) → items ≡ before ++ item ∷ after
    → ¬ Contains before item × ¬ Contains after item

-- Blocks are made, then parameters set, then links made, then this resource is started: by one command, where the system's text has the
-- resource once.
pub record IsInOrder (names : List (List ℕ)) (entry : PlainResource) : Type 0 where
  pub blocks : List (List ℕ)
  pub parameters : List (List ℕ)
  pub links : List (List ℕ)
  pub starts : List (List ℕ)
  pub commands : entry.commands ≡ blocks ++ parameters ++ links ++ starts
  pub make_blocks : AllBegin (codes "CREATE FB ") blocks
  pub set_parameters : AllBegin (codes "WRITE ") parameters
  pub make_links : AllBegin (codes "CREATE CONNECTION ") links
  pub is_started : Contains starts (codes "START " ++ entry.name)
  pub start_it : (command : List ℕ) → Contains starts command → command ≡ codes "START " ++ entry.name
  pub one_start : StandsOnce names entry.name → starts ≡ (codes "START " ++ entry.name) ∷ []

-- a resource of the plan is the home of the block
pub record HasResource (sources : Sources) (system : List ℕ) (resources : List PlainResource) (block : FlatBlock) : Type 0 where
  pub entry : PlainResource
  pub listed : Contains resources entry
  pub home : IsHome sources system block.path entry.name

-- a resource of the plan that the link is within
pub record IsMade (sources : Sources) (system : List ℕ) (flat : PlainFlat) (resources : List PlainResource) (link : Link) : Type 0 where
  pub entry : PlainResource
  pub listed : Contains resources entry
  pub within : IsWithin sources system flat entry.name link

-- the link is a cut, or within a resource of the plan, and not both
pub record IsCutOrMade (sources : Sources) (system : List ℕ) (flat : PlainFlat) (cuts : List Link) (resources : List PlainResource) (link : Link) : Type 0 where
  pub either : Contains cuts link ⊎ IsMade sources system flat resources link
  pub not_both : Contains cuts link → ¬ IsMade sources system flat resources link

-- ---- laws

-- what holds of each plan
abbrev pub HoldsOfEachPlan : (Sources → List ℕ → PlainFlat → List Link → List PlainResource → Type 0) → Type 0
HoldsOfEachPlan Fact =
    (sources : Sources) (system : List ℕ) (flat : PlainFlat) (cuts : List Link) (resources : List PlainResource)
    → IsPlanned sources system flat cuts resources
    → Fact sources system flat cuts resources

-- what holds of each resource of a plan
abbrev pub HoldsOfResources : (Sources → List ℕ → PlainFlat → PlainResource → Type 0) → Type 0
HoldsOfResources Fact = HoldsOfEachPlan (λ sources system flat cuts resources.
    (entry : PlainResource) → Contains resources entry → Fact sources system flat entry)

-- a system with a flat network has commands exactly if nothing is misplaced
abbrev pub PlacedSystemsHaveCommands : Type 0
PlacedSystemsHaveCommands =
    (sources : Sources) (system : List ℕ) (flat : PlainFlat) → IsSystem sources system
    → HasFlat sources system flat
    → HasCommands sources system flat ↔ IsPlacedWhole sources system flat

-- what is at a path has at most one home
abbrev pub BlocksHaveOneHome : Type 0
BlocksHaveOneHome = (sources : Sources) (system path a b : List ℕ) → IsHome sources system path a
    → IsHome sources system path b → a ≡ b

-- an end is on at most one resource
abbrev pub EndsHaveOneHome : Type 0
EndsHaveOneHome =
    (sources : Sources) (system : List ℕ) (blocks : List FlatBlock) (end a b : List ℕ)
    → StandsOn sources system blocks end a → StandsOn sources system blocks end b
    → a ≡ b

abbrev pub CutsJoinResources : Type 0
CutsJoinResources = HoldsOfEachPlan (λ sources system flat cuts resources. AreCuts sources system flat cuts)

abbrev pub BlocksAreMadeAtHome : Type 0
BlocksAreMadeAtHome = HoldsOfResources MakesItsBlocks

abbrev pub ParametersAreSetAtHome : Type 0
ParametersAreSetAtHome = HoldsOfResources SetsItsParameters

abbrev pub LinksAreMadeAtHome : Type 0
LinksAreMadeAtHome = HoldsOfResources MakesItsLinks

abbrev pub CommandsAreInOrder : Type 0
CommandsAreInOrder = HoldsOfEachPlan (λ sources system flat cuts resources.
    (entry : PlainResource) → Contains resources entry → IsInOrder (map (λ r. r.name) resources) entry)

-- DEVICE.RESOURCE, device by device
abbrev pub ResourcesHaveTheirCommands : Type 0
ResourcesHaveTheirCommands = HoldsOfEachPlan (λ sources system flat cuts resources.
    (s : SystemTree) → tree_at sources system ≡ Some (system_configuration s)
    → map (λ r. r.name) resources ≡ flat_map (λ d. map (λ r. dotted d.name.name r.name.name) d.resources) s.devices)

abbrev pub HomesHaveCommands : Type 0
HomesHaveCommands = HoldsOfEachPlan (λ sources system flat cuts resources.
    (block : FlatBlock) → Contains flat.blocks block → HasResource sources system resources block)

abbrev pub LinksAreCutOrMade : Type 0
LinksAreCutOrMade = HoldsOfEachPlan (λ sources system flat cuts resources.
    (link : Link) → Contains flat.links link → IsCutOrMade sources system flat cuts resources link)
