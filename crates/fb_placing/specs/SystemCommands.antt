-- The commands of a system, each with the resource that it is for.
use Rattle.std.specs.{Prelude.{ℕ, List, ◌∷◌, ◌++◌, map, Option, None, option_map, if◌then◌else◌, codes}, List.{filter_map}}
use Rattle.fb_tree.specs.Tree.{ApplicationTree}
use Rattle.fb_library.specs.View.{Sources}
use Rattle.fb_network.specs.{PlainFlat.{PlainFlat}, declared.flat.Link.{Link}, Prefixes.{nearest}}
use Rattle.fb_placing.specs.{Cuts.{home_at, same_home}, declared.homes.Home.{Home}, declared.plan.write_commands.PlacedCommand.{PlacedCommand}}
use Rattle.fb_placing.specs.{ResourceCommand.{ResourceCommand}, PlacedCommands.{create_commands, write_commands}}

abbrev pub without_place : PlacedCommand → ResourceCommand
without_place l = record { resource = l.resource; command = l.command }

-- CREATE CONNECTION from to
abbrev pub connection_text : List ℕ → List ℕ → List ℕ
connection_text from to = codes "CREATE CONNECTION " ++ from ++ 32 ∷ to

-- the resource on which both ends of a link are, where blocks have these homes
abbrev pub link_resource : (List ℕ → Option (List ℕ)) → Link → Option (List ℕ)
link_resource homes link = if same_home (nearest homes link.from) (nearest homes link.to) then nearest homes link.from else None

-- the command that joins the ends of a link on a resource
abbrev pub connection_on : Option (List ℕ) → Link → Option ResourceCommand
connection_on resource link = option_map (λ r. record { resource = r; command = connection_text link.from link.to }) resource

-- the command that joins the ends of a link within a resource
abbrev pub connection_command : (List ℕ → Option (List ℕ)) → Link → Option ResourceCommand
connection_command homes link = connection_on (link_resource homes link) link

abbrev pub connection_commands : (List ℕ → Option (List ℕ)) → List Link → List ResourceCommand
connection_commands homes links = filter_map (connection_command homes) links

-- START DEVICE.RESOURCE
abbrev pub start_text : List ℕ → List ℕ
start_text resource = codes "START " ++ resource

abbrev pub start_command : List ℕ → ResourceCommand
start_command resource = record { resource = resource; command = start_text resource }

-- all commands: blocks are made first, then parameters are set, then connections are made, then resources are started
abbrev pub system_commands : Sources → List ℕ → List ApplicationTree → List (List ℕ) → PlainFlat → List Home → List ResourceCommand
system_commands sources system applications resources flat homes =
    map without_place (create_commands (home_at homes) flat.blocks)
    ++ map without_place (write_commands sources system applications homes)
    ++ connection_commands (home_at homes) flat.links
    ++ map start_command resources
