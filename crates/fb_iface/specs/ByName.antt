-- Where the names of a unit are looked up.
use Rattle.fb_tree.specs.Tree.{type_tree}
use Rattle.fb_iface.specs.{Ports.{Meanings, meanings_in_type}, declared.by_name.Lookup.{Lookup}, declared.by_name.Lookup.TheVariants.{Tables, Tree}}

-- what they mean by it
abbrev pub meanings_by : Lookup → Meanings
meanings_by (Tables ports) = ports
meanings_by (Tree declared) = meanings_in_type (type_tree declared.now)
