-- Commands in the order of the places that they change.
use Rattle.std.specs.{Prelude.{ℕ, List, [], ◌∷◌, ◌++◌, map, Option, Some, None, option_map, codes}, declared.cmp.Ordering.{Ordering}}
use Rattle.std.specs.{List.{filter_map, flat_map}, Ordering.{on, then_cmp}, Cmp.{IsTotalOrder, then_total, on_total}, Cmp.Lexicographic.{nat_list_cmp_total}}
use Rattle.fb_tree.specs.{Text.Order.{in_order, name_cmp}, Tree.{ApplicationTree, ParameterTree}}
use Rattle.fb_library.specs.View.{Sources, text_or_empty}
use Rattle.fb_network.specs.{Places.{dotted}, declared.flat.FlatBlock.{FlatBlock}}
use Rattle.fb_placing.specs.{Resolved.{PlainResolved, path_names, resolved_at}, declared.homes.Home.{Home}}
use Rattle.fb_placing.specs.{declared.plan.write_commands.PlacedCommand.{PlacedCommand}, ConstantTexts.{written}}

-- by the bytes of the places, then of the commands, then of the resources
abbrev pub command_cmp : PlacedCommand → PlacedCommand → Ordering
command_cmp =
    then_cmp (on (λ (l : PlacedCommand). l.place) name_cmp)
    (then_cmp (on (λ (l : PlacedCommand). l.command) name_cmp) (on (λ (l : PlacedCommand). l.resource) name_cmp))

pub command_cmp_total : IsTotalOrder command_cmp
command_cmp_total =
    then_total (on_total (λ (l : PlacedCommand). l.place) nat_list_cmp_total)
    (then_total (on_total (λ (l : PlacedCommand). l.command) nat_list_cmp_total) (on_total (λ (l : PlacedCommand). l.resource) nat_list_cmp_total))

-- CREATE FB path type
abbrev pub create_text : List ℕ → List ℕ → List ℕ
create_text path type_name = codes "CREATE FB " ++ path ++ 32 ∷ type_name

-- WRITE path.parameter constant
abbrev pub write_text : List ℕ → List ℕ → List ℕ
write_text place constant = codes "WRITE " ++ place ++ 32 ∷ constant

-- the command that makes a block, where blocks have these homes
abbrev pub create_command : (List ℕ → Option (List ℕ)) → FlatBlock → Option PlacedCommand
create_command homes block =
    option_map (λ r. record { place = block.path; command = create_text block.path block.type_name; resource = r }) (homes block.path)

-- the commands that make blocks, by the bytes of their paths
abbrev pub create_commands : (List ℕ → Option (List ℕ)) → List FlatBlock → List PlacedCommand
create_commands homes blocks = in_order command_cmp (filter_map (create_command homes) blocks)

-- the command that sets a parameter of a block, in the text that declares the block
abbrev pub write_command : List ℕ → Home → ParameterTree → PlacedCommand
write_command text home p = record {
  place = dotted home.path p.name.name;
  command = write_text (dotted home.path p.name.name) (written text p.value);
  resource = home.resource;
}

abbrev pub commands_at : Sources → Home → Option PlainResolved → List PlacedCommand
commands_at sources home None = []
commands_at sources home (Some s) = map (write_command (text_or_empty sources s.unit) home) s.instance.parameters

-- the commands that set the parameters of a block
abbrev pub home_commands : Sources → List ℕ → List ApplicationTree → Home → List PlacedCommand
home_commands sources system applications home =
    commands_at sources home (resolved_at sources system applications (path_names home.path))

-- the commands that set parameters, by the bytes of their places
abbrev pub write_commands : Sources → List ℕ → List ApplicationTree → List Home → List PlacedCommand
write_commands sources system applications homes = in_order command_cmp (flat_map (home_commands sources system applications) homes)
