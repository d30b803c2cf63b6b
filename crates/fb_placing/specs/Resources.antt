-- The resources of a system, and the commands of each (IEC 61499-1, clause 7: system configurations).
use Rattle.std.specs.{Prelude.{ℕ, List, map, filter}, List.{flat_map}, Str.{bytes_eq}}
use Rattle.fb_tree.specs.Tree.{DeviceTree}
use Rattle.fb_network.specs.Places.{dotted}
use Rattle.fb_placing.specs.{PlainResource.{PlainResource}, ResourceCommand.{ResourceCommand}}

-- the resources of a device, as DEVICE.RESOURCE
abbrev pub device_resources : DeviceTree → List (List ℕ)
device_resources d = map (λ r. dotted d.name.name r.name.name) d.resources

-- the resources of devices, in the order of the text
abbrev pub resources_of : List DeviceTree → List (List ℕ)
resources_of devices = flat_map device_resources devices

-- the commands for a resource, in their order
abbrev pub commands_for : List ResourceCommand → List ℕ → List (List ℕ)
commands_for commands resource = map (λ o. o.command) (filter (λ o. bytes_eq resource o.resource) commands)

abbrev pub resource_plan : List ResourceCommand → List ℕ → PlainResource
resource_plan commands resource = record { name = resource; commands = commands_for commands resource }

-- each resource with its commands
abbrev pub resource_plans : List ResourceCommand → List (List ℕ) → List PlainResource
resource_plans commands resources = map (resource_plan commands) resources
