use Rattle.std.proofs.Common.{◌≡◌, ◌+◌, ◌-◌, ◌≤◌, ◌∙◌, ap, arith, max, min}
use Rattle.fb_history.specs.BenchView.{Origin, last_number}
use Rattle.fb_bench.proofs.Telling.{events_shown}
use Rattle.fb_bench.proofs.bench.Bench.calls_after.Goals as goal

pub returns : goal.returns
returns c =
    let bench = c.args.self.now in
    let last = c.last_number-last.ensures.last in
    let since = c.last_event.ensures ∙ ap (λ (o : Origin). o.last_event) c.start.ensures.same in
    let begun : bench.origin.last_event ≤ c.args.after = omega (arith, since, c.if-after-last_event.false) in
    let first : c.max-first.result ≡ max c.args.after bench.origin.before = c.max-first.ensures ∙ ap (max c.args.after) c.before-2.ensures in
    let at : c.max-first.result + c.min.result ≡ c.max-first.result + min (last_number bench - c.max-first.result) 200 =
    ap (λ n. c.max-first.result + n) (c.min.ensures ∙ ap (λ n. min (n - c.max-first.result) 200) last) in
    events_shown bench c.args.after c.max-first.result (c.max-first.result + c.min.result) _ begun (omega (arith, last, c.if-last-after.false)) first at c.in_ok-records.ensures
