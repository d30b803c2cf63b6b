-- The blocks and links of a flat network, by their numbers.
use Rattle.std.specs.Prelude.{ℕ, [], Option, Some, None, slice_get}
use Rattle.fb_tree.specs.declared.network.Sort.TheVariants.{Event}
use Rattle.fb_network.specs.{PlainFlat.{PlainFlat}, declared.flat.FlatBlock.{FlatBlock}, declared.flat.Link.{Link}}

abbrev pub block_or_nothing : Option FlatBlock → FlatBlock
block_or_nothing None = record { path = []; type_name = [] }
block_or_nothing (Some block) = block

-- the block of that number; after the last one there is one without names
abbrev pub block_numbered : PlainFlat → ℕ → FlatBlock
block_numbered flat n = block_or_nothing (slice_get flat.blocks n)

abbrev pub link_or_nothing : Option Link → Link
link_or_nothing None = record { sort = Event; from = []; to = [] }
link_or_nothing (Some link) = link

-- the link of that number; after the last one there is one between nothing
abbrev pub link_numbered : PlainFlat → ℕ → Link
link_numbered flat n = link_or_nothing (slice_get flat.links n)
