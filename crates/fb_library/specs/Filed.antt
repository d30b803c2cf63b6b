-- A library's units as texts.
use Rattle.std.specs.{Prelude.{◌≡◌, ℕ, List, Option, map}, List.{AllByRecursion}, Option.{option_map}}
use Rattle.fb_parse.specs.Source.{Written}
use Rattle.fb_tree.specs.{Mentions.{unit_kind_of}, declared.kinds.UnitKind.{UnitKind}}
use Rattle.fb_library.specs.{Texts.{Texts, FiledText}, View.{tree_of}, declared.filed.Version.{Version}}

abbrev pub filed_text : Version → FiledText
filed_text it = record { unit = it.unit; held = record { revision = it.revision; text = it.text.value } }

-- the source has the same unit and text, and these are the same revision and the kind of what the text declares
pub record IsFiled (source : Written) (number : ℕ) (kind : Option UnitKind) (it : FiledText) : Type 0 where
  pub unit : source.unit ≡ it.unit
  pub text : source.text ≡ it.held.text
  pub revision : number ≡ it.held.revision
  pub kind_is : kind ≡ option_map unit_kind_of (tree_of it.held.text)

abbrev pub texts_of : List (List ℕ × FiledText) → Texts
texts_of units = map (λ e. (e.0, e.1.held)) units

-- each text is of the unit that it is under
abbrev pub AreOwn : List (List ℕ × FiledText) → Type 0
AreOwn units = AllByRecursion (λ e. e.1.unit ≡ e.0) units
