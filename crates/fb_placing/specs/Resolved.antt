-- What is at a path of a system: an application, a block or a subapplication instance.
use Rattle.std.specs.Prelude.{ℕ, ◌==◌, Bool, true, false, not, if◌then◌else◌, List, [], ◌∷◌, Option, Some, None, is_none, option_and_then}
use Rattle.std.specs.Option.{option_map_or}
use Rattle.fb_tree.specs.Tree.{ApplicationTree, DeclTree, InstanceTree, block_type, adapter_type, subapplication_type, system_configuration, structure_type, instance_tree}
use Rattle.fb_tree.specs.declared.network.Role.{Role}
use Rattle.fb_tree.specs.declared.network.Role.TheVariants as roles
use Rattle.fb_library.specs.View.{Sources, tree_at}
use Rattle.fb_placing.specs.{declared.paths.resolver.Resolved.{Resolved}, FirstEntry.{first_at}}

abbrev pub on_first : ℕ → List (List ℕ) → List (List ℕ)
on_first b [] = []
on_first b (name ∷ names) = (b ∷ name) ∷ names

-- the names of a path: what is between its points
unfoldable pub path_names : List ℕ → List (List ℕ)
path_names [] = [] ∷ []
path_names (b ∷ bs) = if b == 46 then [] ∷ path_names bs else on_first b (path_names bs)

-- an instance, and the unit whose text declares it
pub record PlainResolved : Type 0 where
  pub unit : List ℕ
  pub instance : InstanceTree

-- the instance of the program as a plain value, without its place in memory
abbrev pub plain_resolved : Resolved → PlainResolved
plain_resolved s = record { unit = s.unit; instance = instance_tree s.instance.now }

-- the instances of a subapplication type; nothing is placed inside other types
abbrev pub inner_instances : Option DeclTree → List InstanceTree
inner_instances None = []
inner_instances (Some (block_type d)) = []
inner_instances (Some (adapter_type d)) = []
inner_instances (Some (subapplication_type d)) = d.network.instances
inner_instances (Some (system_configuration s)) = []
inner_instances (Some (structure_type s)) = []

-- the first instance of that name among these
abbrev pub instance_called : List InstanceTree → List ℕ → Option InstanceTree
instance_called instances name = first_at (λ i. i.name.name) (λ i. i) instances name

-- an instance, which the unit declares
abbrev pub resolved_in : List ℕ → InstanceTree → PlainResolved
resolved_in unit i = record { unit = unit; instance = i }

-- the first instance of that name among these, with the unit that declares it
abbrev pub resolved_among : List ℕ → List InstanceTree → List ℕ → Option PlainResolved
resolved_among unit instances name = first_at (λ i. i.name.name) (λ i. record { unit = unit; instance = i }) instances name

-- the instance of that name in the type of an instance
abbrev pub resolved_inside : Sources → List ℕ → PlainResolved → Option PlainResolved
resolved_inside sources name s =
    resolved_among s.instance.type_name.name (inner_instances (tree_at sources s.instance.type_name.name)) name

-- where names lead to, from an instance inwards
abbrev pub resolved_beyond : Sources → Option PlainResolved → List (List ℕ) → Option PlainResolved
resolved_beyond sources s [] = s
resolved_beyond sources s (name ∷ names) = resolved_beyond sources (option_and_then (resolved_inside sources name) s) names

abbrev pub application_called : List ApplicationTree → List ℕ → Option ApplicationTree
application_called applications name = first_at (λ a. a.name.name) (λ a. a) applications name

-- where names lead to, from these instances of the unit inwards
abbrev pub resolved_from : Sources → List ℕ → List InstanceTree → List (List ℕ) → Option PlainResolved
resolved_from sources unit instances [] = None
resolved_from sources unit instances (name ∷ names) = resolved_beyond sources (resolved_among unit instances name) names

-- the instance at a path of a system: in an application, and from there inwards
abbrev pub resolved_at : Sources → List ℕ → List ApplicationTree → List (List ℕ) → Option PlainResolved
resolved_at sources system applications [] = None
resolved_at sources system applications (a ∷ names) =
    option_and_then (λ it. resolved_from sources system it.network.instances names) (application_called applications a)

-- plugs and sockets are not placed
abbrev pub is_placed : Role → Bool
is_placed roles.Plug = false
is_placed roles.Socket = false
is_placed roles.Block = true
is_placed roles.Subapplication = true

-- whether the names lead to no application, block or subapplication instance; a path has one name at least
abbrev pub leads_nowhere : Sources → List ℕ → List ApplicationTree → List (List ℕ) → Bool
leads_nowhere sources system applications [] = false
leads_nowhere sources system applications (a ∷ []) = is_none (application_called applications a)
leads_nowhere sources system applications (a ∷ (name ∷ names)) =
    option_map_or (λ s. not (is_placed s.instance.role)) (resolved_at sources system applications (a ∷ (name ∷ names))) true
