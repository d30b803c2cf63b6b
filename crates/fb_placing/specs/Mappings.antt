-- Mappings, and the resources that paths are mapped to (IEC 61499-1, clause 7: system configurations).
use Rattle.std.specs.Prelude.{ℕ, List, map, Option}
use Rattle.fb_tree.specs.{Text.declared.name.NameUse.{NameUse}, Tree.{MappingTree}}
use Rattle.fb_network.specs.{Places.{dotted}, Printed.{printed}, Prefixes.{nearest}}
use Rattle.fb_placing.specs.FirstEntry.{first_at}

abbrev pub names_used : List NameUse → List (List ℕ)
names_used names = map (λ n. n.name) names

-- the names of a path with points between
abbrev pub mapping_path : MappingTree → List ℕ
mapping_path m = printed (names_used m.path)

-- DEVICE.RESOURCE
abbrev pub mapping_home : MappingTree → List ℕ
mapping_home m = dotted m.device.name m.resource.name

-- the resource of the mapping with that path, of the first one if there are several
abbrev pub resource_at : List MappingTree → List ℕ → Option (List ℕ)
resource_at mappings path = first_at mapping_path mapping_home mappings path

-- the home of a path: the resource of the mapping with the longest path that is this path or a prefix of it
abbrev pub home_of : List MappingTree → List ℕ → Option (List ℕ)
home_of mappings path = nearest (resource_at mappings) path
