-- Values that are kept from before, by their keys.
use Rattle.std.specs.Prelude.{◌≡◌, Option, Some}
use Rattle.fb_deploy.specs.Library.Texts.{Texts}
use Rattle.fb_jobs.specs.{declared.keys.key.Key.{Key}, Keys.{Finding, scratch}}

-- each kept value is what the texts give from scratch
abbrev pub AreKept : Texts → (Key → Option Finding) → Type 0
AreKept texts kept = (key : Key) (finding : Finding) → kept key ≡ Some finding → finding ≡ scratch texts key
