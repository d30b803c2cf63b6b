-- Where a key waits, a take hands out its job.
use Rattle.std.proofs.Common.{◌≡◌, Option, Some, None, true, is_some}
use Rattle.fb_bench.specs.{Jobs.declared.keys.key.Key.{Key}, History.Machine.{State, ToTake, next, reply, taken}, Requests.{job_of}}

job_for_key : (state : State) (key : Option Key) → is_some key ≡ true → taken key state ≡ None → ⊥
job_for_key state None waits none = cc
job_for_key state (Some key) waits none = cc

pub job_waits : (state : State) → is_some (next state) ≡ true → job_of (reply state ToTake) ≡ None → ⊥
unfolding reply
job_waits state waits none = job_for_key state (next state) waits none
