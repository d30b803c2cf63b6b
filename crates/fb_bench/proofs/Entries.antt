-- What is shown as pending is due.
use Rattle.std.proofs.Common.{◌≡◌, Bool, true, false, ◌&&◌, not, refl, cond}
use Rattle.fb_entries.specs.{Jobs.declared.keys.key.Key.{Key}, Jobs.Keys.{Finding, has_key, scratch}}
use Rattle.fb_history.specs.Machine as machine
use Rattle.fb_history.specs.{Machine.{Finds, Waits, Unknown}, BenchView.{BenchView, IsOrigin, opened, calls_of, state_of}, Due.{due_from, is_due}}
use Rattle.fb_bench.specs.{declared.peek.Shown.{Shown}, declared.peek.Shown.TheVariants.{NoSuchKey, Pending, Value}, Peeks.{shown_by, is_pending}}
use Rattle.fb_history.proofs.Dues.{pending_is_due}

shown_bits : (r : Shown) (h p d : Bool) (f : Finding) → p ≡ (h && d) → shown_by r ≡ cond (not h) Unknown (cond p Waits (Finds f)) → is_pending r ≡ (h && d)
shown_bits NoSuchKey false p d f is e = refl
shown_bits Pending false p d f is e = cc
shown_bits (Value v) false p d f is e = cc
shown_bits NoSuchKey true true d f is e = cc
shown_bits NoSuchKey true false d f is e = cc
shown_bits Pending true true d f is e = is
shown_bits Pending true false d f is e = cc
shown_bits (Value v) true true d f is e = cc
shown_bits (Value v) true false d f is e = is

-- what is shown as pending is due
pub due_shown : (r : Shown) (bench : BenchView) (k : Key) → IsOrigin bench.origin → shown_by r ≡ machine.shown (state_of bench) k → is_pending r ≡ is_due bench k
due_shown r bench k begins e = shown_bits r (has_key (state_of bench).units k) ((state_of bench).pending k) (due_from (opened bench.origin) (calls_of bench.log) k) (scratch (state_of bench).units k) (pending_is_due bench k begins) e
