use Rattle.std.proofs.Common.{◌≡◌, true, is_some, None, sym, ap, subst, ◌∙◌, arith}
use Rattle.fb_bench.specs.{History.Machine.{ToTake, next, reply}, Requests.{job_of}, History.BenchView.{BenchView, state_of}}
use Rattle.fb_locked.specs.Seats.{LockedView}
use Rattle.fb_locked.proofs.Takes.{job_waits}
use Rattle.fb_locked.proofs.locked.Locked.look.Goals as goal

pub unreachable-requires : goal.unreachable-requires
unreachable-requires c =
    let locked = c.args.self.now in
    let bench : c.self.inside.bench ≡ locked.bench = ap (λ (h : LockedView). h.bench) c.self.view_is in
    let some : is_some (next (state_of c.self.inside.bench)) ≡ true = grind (arith, c.has_work.ensures, c.if-not-has_work.false) in
    let waits = subst (λ (s : BenchView). is_some (next (state_of s)) ≡ true) bench some in
    let none : job_of (reply (state_of locked.bench) ToTake) ≡ None = ap job_of (sym c.in-Ok.ensures.performs.0) ∙ (sym c.job_from.ensures ∙ c.in-None.is) in
    job_waits (state_of locked.bench) waits none
