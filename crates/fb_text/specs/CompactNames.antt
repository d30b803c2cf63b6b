-- Names that are kept.
use Rattle.std.specs.Prelude.{ℕ, List, box_value}
use Rattle.fb_text.specs.{declared.compact_name.Stored.{Stored}, declared.compact_name.Stored.TheVariants.{Short, Long}}

-- the bytes of the name
abbrev pub compact_name : Stored → List ℕ
compact_name (Short name) = name
compact_name (Long name) = box_value name
