-- Plans by numbers.
use Rattle.std.specs.Prelude.{ℕ, List, map, slice_get}
use Rattle.fb_network.specs.{Laid.{text_or_nothing}, Numbered.{block_numbered, link_numbered}, PlainFlat.{PlainFlat}, declared.flat.FlatBlock.{FlatBlock}}
use Rattle.fb_network.specs.declared.flat.Link.{Link}
use Rattle.fb_placing.specs.{PlacedCommands.{create_text}, ResourceCommand.{ResourceCommand}, SystemCommands.{connection_text, start_text}}
use Rattle.fb_placing.specs.{PlainPlan.{PlainPlan}, PlainResource.{PlainResource}, declared.plan.command_index.CommandIndex.{CommandIndex}}
use Rattle.fb_placing.specs.declared.plan.command_index.CommandIndex.TheVariants.{Create, Write, Connect, Start}
use Rattle.fb_placing.specs.{declared.plan.command_index.ResourceCommands.{ResourceCommands}, declared.plan.assigned_commands.AssignedCommand.{AssignedCommand}}

-- the command that makes a block
abbrev pub block_text : FlatBlock → List ℕ
block_text block = create_text block.path block.type_name

-- the command that makes a link
abbrev pub link_text : Link → List ℕ
link_text link = connection_text link.from link.to

-- the command of an item of a resource, where the parameters are set by these commands
abbrev pub command_text : PlainFlat → List (List ℕ) → List ℕ → CommandIndex → List ℕ
command_text flat writes name (Create n) = block_text (block_numbered flat n)
command_text flat writes name (Write n) = text_or_nothing (slice_get writes n)
command_text flat writes name (Connect n) = link_text (link_numbered flat n)
command_text flat writes name Start = start_text name

abbrev pub command_texts_of : PlainFlat → List (List ℕ) → List ℕ → List CommandIndex → List (List ℕ)
command_texts_of flat writes name items = map (command_text flat writes name) items

abbrev pub plain_resource : PlainFlat → List (List ℕ) → ResourceCommands → PlainResource
plain_resource flat writes r = record { name = r.name; commands = command_texts_of flat writes r.name r.items.items }

abbrev pub plain_plan : PlainFlat → List (List ℕ) → List ℕ → List ResourceCommands → PlainPlan
plain_plan flat writes cuts resources = record { cuts = map (link_numbered flat) cuts; resources = map (plain_resource flat writes) resources }

-- an item and the resource that it is for, as plain values
abbrev pub plain_command : PlainFlat → List (List ℕ) → AssignedCommand → ResourceCommand
plain_command flat writes n = record { resource = n.resource.now; command = command_text flat writes n.resource.now n.index }
