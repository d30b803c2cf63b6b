-- The texts of a library, and edits of them.
use Rattle.std.specs.{Prelude.{ℕ, List, [], ◌∷◌, Option, Some, None, map}, Option.{option_map}, Map.{lookup, remove_entry}, BTreeMap.{is_at, insert_entry}}
use Rattle.std.specs.FinMap.{from_entries}
use Rattle.fb_parse.specs.Text.Order.{name_cmp}
use Rattle.fb_library.specs.View.{Sources}

-- a unit's text with the number of the commit that put it
pub record Held : Type 0 where
  pub revision : ℕ
  pub text : List ℕ

-- a unit's text with its revision and the name of the unit
pub record FiledText : Type 0 where
  pub unit : List ℕ
  pub held : Held

-- the units by rising name
abbrev pub Texts : Type 0
Texts = List (List ℕ × Held)

-- what a library has under a name
abbrev pub held : Texts → List ℕ → Option Held
held texts name = lookup (is_at (name_cmp name)) texts

abbrev pub text_in : Held → List ℕ
text_in it = it.text

-- the text that a library has under a name
abbrev pub text_at : Texts → List ℕ → Option (List ℕ)
text_at texts name = option_map text_in (held texts name)

-- only the texts, without their revisions
abbrev pub sources_of : Texts → Sources
sources_of texts = from_entries (map (λ e. (e.0, text_in e.1)) texts)

-- the number of the commit that put a unit, 0 if it is absent
abbrev pub revision_of : Option Held → ℕ
revision_of None = 0
revision_of (Some it) = it.revision

abbrev pub names_of : Texts → List (List ℕ)
names_of texts = map (λ e. e.0) texts

-- a change of one unit, written against a revision of it
pub data Edit : Type 0 where
  Puts : (unit : List ℕ) (base : ℕ) (text : List ℕ) → Edit
  Removes : (unit : List ℕ) (base : ℕ) → Edit

abbrev pub unit_of : Edit → List ℕ
unit_of (Puts unit base text) = unit
unit_of (Removes unit base) = unit

-- the texts after one change of a commit
abbrev pub edited : ℕ → Edit → Texts → Texts
edited commit (Puts unit base text) texts = insert_entry name_cmp texts unit (record { revision = commit; text = text })
edited commit (Removes unit base) texts = remove_entry (is_at (name_cmp unit)) texts

-- the texts after all changes of a commit
abbrev pub all_edited : ℕ → List Edit → Texts → Texts
all_edited commit [] texts = texts
all_edited commit (edit ∷ edits) texts = all_edited commit edits (edited commit edit texts)
