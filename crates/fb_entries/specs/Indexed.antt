-- The index of a workbench, and what changed units reach by it.
use Rattle.std.specs.{Prelude.{◌≡◌, ◌↔◌, ℕ, Bool, true, false, List, is_some}, BTreeMap.{is_at}}
use Rattle.fb_text.specs.Order.{name_cmp}
use Rattle.fb_index.specs.{Indexed.{Indexed, is_indexed, IsIndexedAs, SameUnit}, Near.{NearSome, ReachesSome}, Library.Texts.{Texts, text_at, sources_of}}
use Rattle.fb_index.specs.Library.View.{mentioned_at}
use Rattle.fb_jobs.specs.{declared.keys.key.Key.{Key}, declared.keys.key.Kind.{Kind}, Keys.{has_key}, Kinds.{needs_all}, Reach.{reaches}}

-- what is indexed of a unit is what it mentions in these texts, and exactly their units are indexed
pub record IsIndexOf (texts : Texts) (index : Indexed) : Type 0 where
  pub mentions : (unit : List ℕ) → IsIndexedAs index unit (mentioned_at (sources_of texts) unit)
  pub units : (unit : List ℕ) → is_indexed index unit ≡ is_some (text_at texts unit)

-- the unit is indexed as in these texts, if they have it, and each other one as before
pub record IsUpdated (texts : Texts) (unit : List ℕ) (old new : Indexed) : Type 0 where
  pub own : IsIndexedAs new unit (mentioned_at (sources_of texts) unit)
  pub there : is_indexed new unit ≡ is_some (text_at texts unit)
  pub others : (other : List ℕ) → is_at (name_cmp unit) other ≡ false → SameUnit old new other

-- a changed name is near the unit, or the unit rests on one
abbrev pub IsReachedFrom : Indexed → List (List ℕ) → Bool → List ℕ → Type 0
IsReachedFrom index changed false unit = NearSome index unit changed
IsReachedFrom index changed true unit = ReachesSome index unit changed

-- whether the changed names reach keys of the kind: if such keys need all that their units rest on, the unit rests on one; otherwise one is near it
abbrev pub IsReached : Indexed → List (List ℕ) → Kind → List ℕ → Type 0
IsReached index changed kind unit = IsReachedFrom index changed (needs_all kind) unit

-- the changed names reach a key of the texts if and only if they reach it by the index
abbrev pub FindsReached : Texts → Indexed → List (List ℕ) → Type 0
FindsReached texts index changed = (key : Key) → has_key texts key ≡ true → (reaches changed texts key ≡ true) ↔ IsReached index changed key.kind key.unit
