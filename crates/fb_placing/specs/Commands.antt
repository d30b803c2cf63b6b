-- The commands of each resource of a system (IEC 61499-1, clause 7: system configurations).
use Rattle.std.specs.Prelude.{ℕ, List, Option}
use Rattle.fb_tree.specs.Tree.{DeclTree}
use Rattle.fb_library.specs.View.{Sources}
use Rattle.fb_network.specs.PlainFlat.{PlainFlat}
use Rattle.fb_placing.specs.{Systems.{applications_in, devices_in}, declared.homes.Home.{Home}, SystemCommands.{system_commands}, PlainResource.{PlainResource}}
use Rattle.fb_placing.specs.Resources.{resource_plans, resources_of}

-- each resource with its commands, in the order of the text, where blocks have these homes
abbrev pub commands_in : Sources → List ℕ → Option DeclTree → PlainFlat → List Home → List PlainResource
commands_in sources system tree flat homes =
    resource_plans (system_commands sources system (applications_in tree) (resources_of (devices_in tree)) flat homes) (resources_of (devices_in tree))
