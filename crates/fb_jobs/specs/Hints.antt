-- The nets of other subapplications that are passed to a job.
use Rattle.std.specs.{Prelude.{◌≡◌, ◌≢◌, ℕ, Bool, true, false, not, ◌&&◌, is_some, List, [], ◌∷◌, ◌++◌, map, filter, Option, Some, All}, List.{AllPairs}}
use Rattle.std.specs.BTreeMap.{is_at}
use Rattle.fb_text.specs.Order.{name_cmp}
use Rattle.fb_deploy.specs.{Library.Texts.{Texts, sources_of}, Library.View.{tree_at}, Flatten.Tables.{is_subapplication_in}}
use Rattle.fb_jobs.specs.declared.keys.key.Kind.TheVariants as kind
use Rattle.fb_jobs.specs.{declared.keys.key.Key.{Key}, declared.kept.hints.Hint.{Hint}, Keys.{Finding, needs, scratch}, Kinds.{needs_all}}
use Rattle.fb_jobs.specs.{Reads.{Seen, read_names, is_among}, Values.{finding_of}}
pub use Rattle.fb_jobs.specs.Cache.{AreKept}

-- the key of a unit's net
abbrev pub net_key : List ℕ → Key
net_key unit = record { kind = kind.Net; unit = unit }

-- a name of a subapplication that is not the unit
abbrev pub is_other_subapplication : Texts → List ℕ → List ℕ → Bool
is_other_subapplication texts unit name = not (is_at (name_cmp unit) name) && is_subapplication_in (tree_at (sources_of texts) name)

-- the hint is the net of its unit
abbrev pub IsNetOf : Texts → Hint → Type 0
IsNetOf texts hint = finding_of hint.value.value ≡ scratch texts (net_key hint.unit)

-- the net of another subapplication among what the key needs
pub record IsHint (texts : Texts) (key : Key) (hint : Hint) : Type 0 where
  pub other : is_other_subapplication texts key.unit hint.unit ≡ true
  pub needed : is_among hint.unit (needs texts key) ≡ true
  pub net_is : IsNetOf texts hint

-- what can be passed to a job for the key: nets of other subapplications that the key needs, no unit twice; for faults nothing
pub record AreHints (texts : Texts) (key : Key) (hints : List Hint) : Type 0 where
  pub none : needs_all key.kind ≡ false → hints ≡ []
  pub each : All (IsHint texts key) hints
  pub once : AllPairs (λ (a b : Hint). a.unit ≢ b.unit) hints

-- ---- which of the kept nets `for_kept` passes to a job

abbrev pub is_chosen : Texts → (Key → Option Finding) → List ℕ → List ℕ → Bool
is_chosen texts kept unit name = is_other_subapplication texts unit name && is_some (kept (net_key name))

abbrev pub units_of : List Hint → List (List ℕ)
units_of hints = map (λ (hint : Hint). hint.unit) hints

-- the hint is what is kept of the net of its unit
abbrev pub IsKeptHint : (Key → Option Finding) → Hint → Type 0
IsKeptHint kept hint = kept (net_key hint.unit) ≡ Some (finding_of hint.value.value)

-- all nets that are kept of other subapplications among the reads
pub record AreChosen (texts : Texts) (kept : Key → Option Finding) (unit : List ℕ) (reads : List Seen) (hints : List Hint) : Type 0 where
  pub units : units_of hints ≡ filter (is_chosen texts kept unit) (read_names reads)
  pub nets : All (IsKeptHint kept) hints

-- one name more
pub record AddsChosen (texts : Texts) (kept : Key → Option Finding) (unit name : List ℕ) (old new : List Hint) : Type 0 where
  pub units : units_of new ≡ units_of old ++ filter (is_chosen texts kept unit) (name ∷ [])
  pub nets : All (IsKeptHint kept) old → All (IsKeptHint kept) new
