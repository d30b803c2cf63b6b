-- What a job computes: its value, and the nets of other units on the way.
use Rattle.std.specs.{Prelude.{◌≡◌, ℕ, Bool, true, false, List, [], Option, Some, All}, declared.sync.Arc.{Arc}, declared.alloc.Global.{Global}}
use Rattle.std.specs.BTreeMap as tree
use Rattle.std.specs.BTreeSet as set
use Rattle.fb_text.specs.Order.{name_cmp}
use Rattle.fb_deploy.specs.{Library.Rests.{Rests}, Library.Texts.{Texts}, Library.View.{Sources}, Flatten.Net.{PlainNet}, Flatten.Nets.{net_at}}
use Rattle.fb_jobs.specs.{declared.kept.hints.Hint.{Hint}, declared.kept.cached.CachedNets.{CachedNets}, declared.jobs.computed.Worked.{Worked}, declared.keys.key.Key.{Key}}
use Rattle.fb_jobs.specs.{declared.keys.key.Kind.{Kind}, declared.values.value.Value.{Value}, Hints.{IsNetOf}, Keys.{needs, net_finding, scratch_of}, Kinds.{needs_all}}
use Rattle.fb_jobs.specs.{Cached.{hint_in}, Reads.{is_among}, Values.{finding_of}}

-- what is known of nets, and of units without faults
abbrev pub known_hints : CachedNets → List ℕ → Option PlainNet
known_hints it name = hint_in (tree.get name_cmp it.nets.now name)

abbrev pub known_faultless : CachedNets → List ℕ → Bool
known_faultless it name = set.contains name_cmp it.faultless.now name

-- a value that is known is the net of the unit
abbrev pub IsOwnIn : Sources → List ℕ → Option (Arc Value Global) → Type 0
IsOwnIn sources unit own = (value : Arc Value Global) → own ≡ Some value → finding_of value.value ≡ net_finding (net_at sources unit)

-- the net of a unit that the first rests on
pub record IsFoundIn (sources : Sources) (unit : List ℕ) (hint : Hint) : Type 0 where
  pub below : Rests sources unit hint.unit
  pub net_is : finding_of hint.value.value ≡ net_finding (net_at sources hint.unit)

-- the value of the kind, and nets of what the unit rests on; no nets for a kind that does not need all of that
pub record IsWork (kind : Kind) (sources : Sources) (unit : List ℕ) (worked : Worked) : Type 0 where
  pub value_is : finding_of worked.value.value ≡ scratch_of kind sources unit
  pub none : needs_all kind ≡ false → worked.found.items ≡ []
  pub found_are : All (IsFoundIn sources unit) worked.found.items

-- the net of a unit that the key needs with all that it rests on
pub record IsFoundFor (texts : Texts) (key : Key) (hint : Hint) : Type 0 where
  pub all : needs_all key.kind ≡ true
  pub needed : is_among hint.unit (needs texts key) ≡ true
  pub net_is : IsNetOf texts hint
