-- What a job knows beside its reads and its hints.
use Rattle.std.specs.Prelude.{◌≡◌, ◌⊎◌, ℕ, Bool, true, false, ◌&&◌, ◌||◌, if◌then◌else◌, is_some, List, [], ◌∷◌, Option, Some, None, Contains}
use Rattle.std.specs.{BTreeMap.{is_at}, List.{AllZip}, declared.sync.Arc.{Arc}, declared.alloc.Global.{Global}}
use Rattle.std.specs.BTreeMap as tree
use Rattle.fb_text.specs.Order.{name_cmp}
use Rattle.fb_deploy.specs.{Library.Texts.{Texts}, Flatten.Blocking.{is_some_fault, is_some_name}, Flatten.Net.{PlainNet, blocked, plain_net}}
use Rattle.fb_jobs.specs.{declared.kept.hints.Hint.{Hint}, declared.kept.cached.Cached.{Cached}, declared.kept.cached.Judged.{Judged}, declared.keys.key.Key.{Key}, declared.values.value.Value.{Value}}
use Rattle.fb_jobs.specs.declared.values.value.Value.TheVariants.{Faults, Net, Deploy}
use Rattle.fb_jobs.specs.{Keys.{Finding, FaultsFound, NetFound, DeployFound, NothingFound, has_key, scratch}, Reads.{Seen, read_names, read_texts, is_among}}
use Rattle.fb_jobs.specs.{Hints.{AreHints, net_key}, Values.{finding_of}}
use Rattle.fb_jobs.specs.declared.keys.key.Kind.TheVariants as kind

-- ---- nets

-- values by the names of their units
abbrev pub Nets : Type 0
Nets = tree.BTreeMap (List ℕ) (Arc Value Global)

abbrev pub net_in : Value → Option PlainNet
net_in (Faults faults) = None
net_in (Net net) = Some (plain_net net)
net_in (Deploy deploy) = None

abbrev pub hint_in : Option (Arc Value Global) → Option PlainNet
hint_in None = None
hint_in (Some value) = net_in value.value

-- each net is that of a hint
abbrev pub AreNetsOf : List Hint → Nets → Type 0
AreNetsOf hints nets =
    (name : List ℕ) (value : Arc Value Global) → tree.get name_cmp nets name ≡ Some value
    → (hint : Hint) × Contains hints hint × (hint.unit ≡ name) × (hint.value.value ≡ value.value)

-- nothing is added but the net of the hint
abbrev pub AddsNet : Hint → Nets → Nets → Type 0
AddsNet hint old new =
    (name : List ℕ) (value : Arc Value Global) → tree.get name_cmp new name ≡ Some value
    → (tree.get name_cmp old name ≡ Some value) ⊎ ((hint.unit ≡ name) × (hint.value.value ≡ value.value))

-- the net of the unit that is kept, or that was found
abbrev pub IsOwnNet : (Key → Option Finding) → (Key → Option Finding) → List ℕ → Option (Arc Value Global) → Type 0
IsOwnNet kept found unit own =
    (value : Arc Value Global) → own ≡ Some value
    → (kept (net_key unit) ≡ Some (finding_of value.value)) ⊎ (found (net_key unit) ≡ Some (finding_of value.value))

-- a value that is known is the net of the unit
abbrev pub IsNetOfUnit : Texts → List ℕ → Option (Arc Value Global) → Type 0
IsNetOfUnit texts unit own = (value : Arc Value Global) → own ≡ Some value → finding_of value.value ≡ scratch texts (net_key unit)

-- ---- units without faults

-- the key of a unit's faults
abbrev pub faults_key : List ℕ → Key
faults_key unit = record { kind = kind.Faults; unit = unit }

abbrev pub IsKeptFaultless : (Key → Option Finding) → List ℕ → Type 0
IsKeptFaultless kept unit = kept (faults_key unit) ≡ Some (FaultsFound [])

-- the unit is present
abbrev pub IsThere : Texts → List ℕ → Type 0
IsThere texts unit = has_key texts (faults_key unit) ≡ true

-- whether some read of this name is flagged; the flags are in the order of the reads
abbrev pub is_flagged : List Seen → List Bool → List ℕ → Bool
is_flagged [] flags name = false
is_flagged (it ∷ reads) [] name = false
is_flagged (it ∷ reads) (flag ∷ flags) name = (flag && is_at (name_cmp name) it.name) || is_flagged reads flags name

-- if these are faults, whether there are some
abbrev pub some_faults : Option Finding → Option Bool
some_faults (Some (FaultsFound faults)) = Some (is_some_fault faults)
some_faults (Some (NetFound net)) = None
some_faults (Some (DeployFound plan)) = None
some_faults (Some NothingFound) = None
some_faults None = None

-- whether a unit that is present has faults, if that is kept
abbrev pub judged : (Key → Option Finding) → Seen → Option Bool
judged kept it = if is_some it.found then some_faults (kept (faults_key it.name)) else None

-- what is flagged is present, and kept without faults
abbrev pub IsFlag : (Key → Option Finding) → Seen → Bool → Type 0
IsFlag kept it flag = flag ≡ true → judged kept it ≡ Some false

-- each is read, present, and kept without faults
abbrev pub AreFaultlessAmong : Texts → (Key → Option Finding) → List Seen → (List ℕ → Bool) → Type 0
AreFaultlessAmong texts kept reads faultless =
    (name : List ℕ) → faultless name ≡ true → (is_among name (read_names reads) ≡ true) × IsThere texts name × IsKeptFaultless kept name

-- each is present and has no faults
abbrev pub AreWithoutFaults : Texts → (List ℕ → Bool) → Type 0
AreWithoutFaults texts faultless =
    (name : List ℕ) → faultless name ≡ true → IsThere texts name × (scratch texts (faults_key name) ≡ FaultsFound [])

-- ---- units with faults

abbrev pub named_if : Bool → List ℕ → List (List ℕ) → List (List ℕ)
named_if has name names = if has then name ∷ names else names

-- for each read it is known whether its unit has faults, and these are the names of those that have
abbrev pub AreBlocking : (Key → Option Finding) → List Seen → List (List ℕ) → Type 0
AreBlocking kept [] names = names ≡ []
AreBlocking kept (it ∷ reads) names = (has : Bool) × (rest : List (List ℕ)) × (judged kept it ≡ Some has) × AreBlocking kept reads rest × (names ≡ named_if has it.name rest)

-- flags for the reads, and if of each it is known whether its unit has faults, the names of those that have
pub record AreJudged (kept : Key → Option Finding) (reads : List Seen) (it : Judged) : Type 0 where
  pub flags_are : AllZip (IsFlag kept) reads it.faultless.items
  pub faulty_are : it.is_all ≡ true → AreBlocking kept reads it.faulty.items

-- the net of a unit that is blocked by these, if these are all
pub record IsBlockedBy (is_all : Bool) (names : List (List ℕ)) (net : Value) : Type 0 where
  pub all : is_all ≡ true
  pub some : is_some_name names ≡ true
  pub net_is : finding_of net ≡ NetFound (blocked names)

-- ---- together

pub record IsCached (reads : List Seen) (key : Key) (it : Cached) : Type 0 where
  pub hints_are : AreHints (read_texts reads) key it.hints.items
  pub own_is : IsNetOfUnit (read_texts reads) key.unit it.own
  pub faultless_are : AreWithoutFaults (read_texts reads) (is_flagged reads it.faultless.items)
