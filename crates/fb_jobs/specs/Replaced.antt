-- Texts that replace what was read before.
use Rattle.std.specs.Prelude.{ℕ, List, [], ◌∷◌, ◌++◌, set, Option, Some, None}
use Rattle.std.specs.{declared.sync.Arc.{Arc}, declared.alloc.Global.{Global}}
use Rattle.fb_deploy.specs.{Library.Filed.{filed_text}, Library.declared.filed.Version.{Version}}
use Rattle.fb_jobs.specs.{Reads.{Seen}, Texts.{there}, declared.keys.texts.Replacement.{Replacement}}

-- a text in place of what was read there
abbrev pub replaced : List Seen → Replacement → List Seen
replaced reads it = set reads it.place (there (filed_text it.version.value))

-- one after the other
abbrev pub all_replaced : List Seen → List Replacement → List Seen
all_replaced reads [] = reads
all_replaced reads (it ∷ more) = all_replaced (replaced reads it) more

-- what was read, or the text that is there now
abbrev pub latest_or : Seen → Option Version → Seen
latest_or before None = before
latest_or before (Some version) = there (filed_text version)

-- what was read, or the text that replaces it
abbrev pub unless_replaced : Seen → Option (Arc Version Global) → Seen
unless_replaced before None = before
unless_replaced before (Some version) = there (filed_text version.value)

-- and one more, if there is one
abbrev pub more_replaced : List Replacement → ℕ → Option (Arc Version Global) → List Replacement
more_replaced replacements place None = replacements
more_replaced replacements place (Some version) = replacements ++ record { place = place; version = version } ∷ []
