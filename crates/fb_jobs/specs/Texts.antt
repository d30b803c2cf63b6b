-- What is kept of reads: the text under each name that has one, and beside these the names without a text.
use Rattle.std.specs.{Prelude.{◌≡◌, ℕ, List, [], ◌∷◌, suc, map, length, Option, Some, None}, declared.sync.Arc.{Arc}, declared.alloc.Global.{Global}}
use Rattle.fb_deploy.specs.{Library.Texts.{FiledText}, Library.Filed.{filed_text}, Library.declared.filed.Version.{Version}}
use Rattle.fb_jobs.specs.Reads.{Seen}

abbrev pub text_of : Option (Arc Version Global) → Option FiledText
text_of None = None
text_of (Some version) = Some (filed_text version.value)

abbrev pub there : FiledText → Seen
there it = record { name = it.unit; found = Some it.held }

abbrev pub nothing : List ℕ → Seen
nothing name = record { name = name; found = None }

-- each text is read under its own name, and each absence under the next of the names
abbrev pub seen_in : List (Option FiledText) → List (List ℕ) → List Seen
seen_in [] names = []
seen_in (Some it ∷ texts) names = there it ∷ seen_in texts names
seen_in (None ∷ texts) [] = []
seen_in (None ∷ texts) (name ∷ names) = nothing name ∷ seen_in texts names

abbrev pub texts_seen : List (Option (Arc Version Global)) → List (List ℕ) → List Seen
texts_seen versions names = seen_in (map text_of versions) names

-- how many have no text
abbrev pub missing : List (Option FiledText) → ℕ
missing [] = 0
missing (Some it ∷ texts) = missing texts
missing (None ∷ texts) = suc (missing texts)

-- there is a name for each of these
abbrev pub AreNamed : List (Option FiledText) → List (List ℕ) → Type 0
AreNamed texts names = length names ≡ missing texts

-- what was read under a name, as a text or nothing
abbrev pub seen_under : List ℕ → Option FiledText → Seen
seen_under name None = nothing name
seen_under name (Some it) = there it
