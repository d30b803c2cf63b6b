-- What is read now, compared with what a value was computed from.
use Rattle.std.specs.{Prelude.{◌≡◌, ◌⊎◌, ⊤, ℕ, Bool, true, false, List, Option, None, Some}, List.{AllZip}, Option.{option_and_then, option_map}}
use Rattle.fb_deploy.specs.{Deploy.{plain_deploy}, Plans.{is_whole_plan}, Flatten.Hints.{is_whole_net}, Flatten.Net.{plain_net}, Library.Texts.{Held, text_in}}
use Rattle.fb_deploy.specs.{Library.View.{mentions_of_tree, tree_of}, Flatten.Wiring.Local.{AreInterchangeableBlocks}}
use Rattle.fb_jobs.specs.{declared.keys.key.Key.{Key}, declared.values.value.Value.{Value}, declared.values.value.Value.TheVariants.{Faults, Net, Deploy}, Keys.{scratch}}
use Rattle.fb_jobs.specs.{Reads.{IsRight, Seen, read_texts}, Values.{finding_of}}

-- the value is that of what was read, from scratch
pub record IsDerived (key : Key) (reads : List Seen) (value : Value) : Type 0 where
  pub right : IsRight (record { key = key; reads = reads })
  pub value_is : finding_of value ≡ scratch (read_texts reads) key

-- whether it is a net that nothing blocked and in which no type reaches itself, or a plan by such a net
abbrev pub is_whole_value : Value → Bool
is_whole_value (Faults faults) = false
is_whole_value (Net net) = is_whole_net (plain_net net)
is_whole_value (Deploy deploy) = is_whole_plan (plain_deploy deploy)

abbrev pub seen_text : Seen → Option (List ℕ)
seen_text it = option_map text_in it.found

-- what is read under a name mentions what it mentioned before
abbrev pub MentionsTheSame : Seen → Seen → Type 0
MentionsTheSame before now = mentions_of_tree (option_and_then tree_of (seen_text before)) ≡ mentions_of_tree (option_and_then tree_of (seen_text now))

-- the text of a name on which the unit rests is the same, or it is another unit's and still a block type with the same interface
abbrev pub IsStillText : List ℕ → List ℕ → List ℕ → List ℕ → Type 0
IsStillText unit name before now = (before ≡ now) ⊎ ((name ≡ unit → ⊥) × AreInterchangeableBlocks (tree_of before) (tree_of now))

-- such a text, of a unit that is known to be without faults; or there was no text, and there is none
abbrev pub IsStillFound : List ℕ → (List ℕ → Bool) → List ℕ → Option Held → Option Held → Type 0
IsStillFound unit faultless name None None = ⊤
IsStillFound unit faultless name None (Some now) = ⊥
IsStillFound unit faultless name (Some before) None = ⊥
IsStillFound unit faultless name (Some before) (Some now) = IsStillText unit name before.text now.text × (faultless name ≡ true)

-- this holds of what is read under a name, and what was read under it before
pub record IsStillRead (unit : List ℕ) (faultless : List ℕ → Bool) (before now : Seen) : Type 0 where
  pub name : before.name ≡ now.name
  pub found : IsStillFound unit faultless now.name before.found now.found

-- this holds at each place
abbrev pub AreStillRead : List ℕ → (List ℕ → Bool) → List Seen → List Seen → Type 0
AreStillRead unit faultless before now = AllZip (IsStillRead unit faultless) before now
