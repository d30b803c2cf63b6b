-- Orders of names, and what is found by tables.
use Rattle.std.specs.Prelude.{◌≡◌, ℕ, ◌<◌, true, false, List, Option, Some, Contains, length, take, slice_index_or}
use Rattle.fb_types.specs.{Library.View.{Sources, parts_at}, Library.Rests.{PartRests}, Network.PlainFlat.{PlainFlat}, Network.Ready.{Nets}}
use Rattle.fb_types.specs.{Counts.{IsCounted}, ByName.{declared}}
pub use Rattle.fb_types.specs.Tables.{IsDeclaredIn, Has, HasAdapter, HasAdapters, Grows, HasType, IsTable, AllCounted, SameOthers, IsUnitCount, IsSmallType, known_flats, IsComposed, IsAdded, AllFinished, is_subapplication_tree, is_subapplication_in, is_missing, IsComposable, AreComposable, IsComposedApplication, AreComposedApplications, IsFlatTogether, AreComposedTogether, is_system_tree, is_system_in}
use Rattle.fb_flatten.specs.{Hints.{is_whole_hint}, Net.{PlainNet, IsSound}}

-- Names with inner types first, except inside a type whose kept net shows that it is whole. Each of them is sound.
pub record IsSoundOrder (sources : Sources) (hints : List ℕ → Option PlainNet) (order : List (List ℕ)) : Type 0 where
  pub inner_first :
      (k : ℕ) (name w : List ℕ)
      → k < length order → name ≡ slice_index_or order k name → is_whole_hint (hints name) ≡ false → Contains (parts_at sources name) w
      → Contains (take k order) w
  pub sound : (name : List ℕ) → Contains order name → IsSound sources name

-- such an order of names that the unit rests on by parts, among them the unit and its parts
pub record IsUnitOrder (sources : Sources) (hints : List ℕ → Option PlainNet) (unit : List ℕ) (order : List (List ℕ)) : Type 0 where
  pub names : IsSoundOrder sources hints order
  pub own : Contains order unit
  pub parts : (w : List ℕ) → Contains (parts_at sources unit) w → Contains order w
  pub below : (name : List ℕ) → Contains order name → PartRests sources unit name

-- each composed flat network is that of a name of the order that is missing for the unit
abbrev pub AreMissing : Sources → (List ℕ → Option PlainNet) → List ℕ → List (List ℕ) → Nets → Type 0
AreMissing sources hints unit order composed =
    (name : List ℕ) (flat : PlainFlat)
    → composed name ≡ Some flat → Contains order name × (is_missing sources hints unit name ≡ true)

-- each count is that of the type of its name
abbrev pub AreRightCounts : Sources → (List ℕ → Option ℕ) → Type 0
AreRightCounts sources counts = (name : List ℕ) (count : ℕ) → counts name ≡ Some count → IsCounted (declared sources) counts name
