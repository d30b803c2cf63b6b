-- The jobs that are held, by their numbers.
use Rattle.std.proofs.Common.{◌≡◌, ◌<◌, ◌-◌, ℕ, arith, refl, suc, zero}
use Rattle.std.specs.List.{slice_get}
use Rattle.fb_wire.specs.Conversations.{Jobs, job_at}

pub job_at-by : (held : Jobs) (number : ℕ) → 0 < number → job_at held number ≡ slice_get held (number - 1)
job_at-by held zero some = absurd (omega arith)
job_at-by held (suc n) some = let e : suc n - 1 ≡ n = omega arith in rw e refl
