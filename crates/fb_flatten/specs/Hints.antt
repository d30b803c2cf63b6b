-- Nets that are kept from before.
use Rattle.std.specs.Prelude.{◌≡◌, ℕ, Bool, true, false, List, Option, Some}
use Rattle.fb_types.specs.Library.View.{Sources}
pub use Rattle.fb_types.specs.Hints.{flat_of_net, flat_of_hint, is_whole_net, is_whole_hint, is_uncached, uncached_of}
use Rattle.fb_flatten.specs.{Blocking.{is_absent_or_faulty}, Net.{PlainNet}, Nets.{net_at}}

-- each net that is kept is that of the unit of its name
abbrev pub AreRightHints : Sources → (List ℕ → Option PlainNet) → Type 0
AreRightHints sources hints =
    (name : List ℕ) (net : PlainNet) → hints name ≡ Some net → net_at sources name ≡ Some net

-- each unit that is known to be without faults is present and has none
abbrev pub AreFaultless : Sources → (List ℕ → Bool) → Type 0
AreFaultless sources faultless = (name : List ℕ) → faultless name ≡ true → is_absent_or_faulty sources name ≡ false
