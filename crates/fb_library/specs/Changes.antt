-- A change as an edit of texts.
use Rattle.std.specs.Prelude.{List, map}
use Rattle.fb_library.specs.{Texts.{Edit, Puts, Removes}, declared.change.Change.{Change}, declared.change.Change.TheVariants.{Put, Remove}}

abbrev pub edit_of : Change → Edit
edit_of (Put base source) = Puts source.value.unit base source.value.text
edit_of (Remove unit base) = Removes unit base

abbrev pub edits_of : List Change → List Edit
edits_of changes = map edit_of changes
