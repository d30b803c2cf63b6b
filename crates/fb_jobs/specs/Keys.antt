-- Which keys texts have, what a key needs, and what reading it from scratch gives.
use Rattle.std.specs.{Prelude.{ℕ, Bool, List, Option, Some, None, is_some}, Option.{option_and_then}}
use Rattle.fb_deploy.specs.{Library.Texts.{Texts, text_at, sources_of}, Library.View.{Sources, tree_of}, Library.Near.{near_of}}
use Rattle.fb_deploy.specs.{Iface.declared.fault.Fault.{Fault}, Faults.Faults.{faults_of}, Flatten.Net.{PlainNet}, Flatten.Far.{far_of}}
use Rattle.fb_deploy.specs.{Flatten.Nets.{has_net_in, net_at}, Deploy.{PlainDeploy}, Plans.{has_plan_in, plan_at}}
use Rattle.fb_jobs.specs.{declared.keys.key.Kind.{Kind}, declared.keys.key.Kind.TheVariants.{Faults, Net, Deploy}, declared.keys.key.Key.{Key}}

-- Whether a unit with this text, or with none, has a key of the kind: each unit has faults, a subapplication and a system have a net,
-- and a system has a plan.
abbrev pub has_kind_at : Kind → Option (List ℕ) → Bool
has_kind_at Faults text = is_some text
has_kind_at Net text = has_net_in (option_and_then tree_of text)
has_kind_at Deploy text = has_plan_in (option_and_then tree_of text)

-- whether the key is one of the texts' keys
unfoldable pub has_key : Texts → Key → Bool
has_key texts key = has_kind_at key.kind (text_at texts key.unit)

-- The names whose texts decide the value of a unit's key, in order: for its faults those near it, for the other kinds all that it
-- rests on.
abbrev pub needs_of : Kind → Sources → List ℕ → List (List ℕ)
needs_of Faults sources unit = near_of sources unit
needs_of Net sources unit = far_of sources unit
needs_of Deploy sources unit = far_of sources unit

unfoldable pub needs : Texts → Key → List (List ℕ)
needs texts key = needs_of key.kind (sources_of texts) key.unit

-- what an entry can hold
pub data Finding : Type 0 where
  FaultsFound : (faults : List Fault) → Finding
  NetFound : (net : PlainNet) → Finding
  DeployFound : (plan : PlainDeploy) → Finding
  NothingFound : Finding

abbrev pub net_finding : Option PlainNet → Finding
net_finding None = NothingFound
net_finding (Some net) = NetFound net

abbrev pub plan_finding : Option PlainDeploy → Finding
plan_finding None = NothingFound
plan_finding (Some plan) = DeployFound plan

abbrev pub scratch_of : Kind → Sources → List ℕ → Finding
scratch_of Faults sources unit = FaultsFound (faults_of sources unit)
scratch_of Net sources unit = net_finding (net_at sources unit)
scratch_of Deploy sources unit = plan_finding (plan_at sources unit)

-- the key's value from scratch: computed only from the texts
unfoldable pub scratch : Texts → Key → Finding
scratch texts key = scratch_of key.kind (sources_of texts) key.unit
