-- The pages are copied, and all else is moved.
use Rattle.std.proofs.Common.{◌≡◌, [], ◌∙◌, ap, sym, subst, arith, rules}
use Rattle.fb_history.specs.{Checkpoints.{restarted}, Events.{last_event_in, last_event_of}, Records.{records_in}, BenchView.{BenchView, last_number, on_page, pages_after}}
use Rattle.fb_history.proofs.{Numbers.{TurnsFrom, turns_none}, Pages.{copied, within_all}}
use Rattle.fb_history.proofs.log.History.restart.Goals as goal

pub invariant_of-self : goal.invariant_of-self
invariant_of-self c =
    let records = records_in c.self.inside.records.items in
    let none : c.replace-records.new.dest.items ≡ [] = ap (λ v. v.items) c.replace-records.ensures.after ∙ c.new-none.ensures.items in
    let same : c.in_ok-calls.calls.entries ≡ c.self.inside.turns.entries = copied _ _ c.in_ok-calls.ensures.cases in
    let all : c.in_ok-calls.calls.entries ≡ pages_after c.self.inside.start.pages records = same ∙ c.self.invariant.pages_are in
    let bench : BenchView = record { origin = c.self.inside.start; log = record { limit = c.self.inside.limit; records = records } } in
    let last : c.last_number-before.result ≡ last_number bench = c.last_number-before.ensures.last ∙ ap last_number (sym c.self.view_is) in
    record {
      pages_are = sym same ∙ ap (λ rs. pages_after c.in_ok-calls.calls.entries (records_in rs)) (sym none);
      within = grind (arith, rules);
      fits = omega (arith, c.last_number-before.ensures.last, c.history-limit.ensures.history, c.requires);
      pages_fit = λ caller. let here = within_all c.self.inside.start.pages c.self.inside.start.before records caller (c.self.invariant.pages_fit caller) in
          let at = ap (λ es. on_page es caller) all in omega (arith, here, at, last);
      event_is = ap (λ rs. last_event_in c.self.inside.last_event c.last_number-before.result (records_in rs)) (sym none);
      turns_are = subst (λ rs. TurnsFrom c.in_ok-calls.calls.entries (records_in rs)) (sym none) (turns_none _);
    }

pub returns-clause-ok : goal.returns-clause-ok
returns-clause-ok c =
    let records = records_in c.self.inside.records.items in
    let none : c.replace-records.new.dest.items ≡ [] = ap (λ v. v.items) c.replace-records.ensures.after ∙ c.new-none.ensures.items in
    let same : c.in_ok-calls.calls.entries ≡ c.self.inside.turns.entries = copied _ _ c.in_ok-calls.ensures.cases in
    let all : c.in_ok-calls.calls.entries ≡ pages_after c.self.inside.start.pages records = same ∙ c.self.invariant.pages_are in
    let bench : BenchView = record { origin = c.self.inside.start; log = record { limit = c.self.inside.limit; records = records } } in
    let last : c.last_number-before.result ≡ last_number bench = c.last_number-before.ensures.last ∙ ap last_number (sym c.self.view_is) in
    let event : c.self.inside.last_event ≡ last_event_of bench = c.self.invariant.event_is in
    (λ i. record { origin = record { most_units = c.units-most_units.ensures.units i; units = c.args.library; commits = c.args.commits; pending = c.args.pending.items; out = c.args.out.items; before = last i; pages = all i; last_event = event i }; log = record { limit = c.history-limit.ensures.history i; records = records_in (none i) } })
    ∙ ap (λ st. restarted c.args.limits c.args.library c.args.commits c.args.pending.items c.args.out.items st) c.self.view_is
