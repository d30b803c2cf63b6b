-- One more record, on the page of its caller.
use Rattle.std.proofs.{Common.{◌≡◌, ◌∙◌, ◌+◌, ◌++◌, ◌∷◌, [], Bool, ℕ, ap, if◌then◌else◌, length, sym, arith}, lemmas.Grind.{common_steps}}
use Rattle.std.specs.{BTreeMap.{insert_entry}, Ordering.{nat_cmp}}
use Rattle.fb_history.specs.{Events.{is_event, last_event_in}, Records.{records_in}, BenchView.{Record, all_turns, last_number, on_page, pages_after, turns_of}}
use Rattle.fb_history.proofs.{Numbers.{shares_pushed, turns_shared}, Pages.{on_all, pages_pushed}}
use Rattle.fb_history.proofs.EventLemmas.{event_pushed}
use Rattle.fb_history.proofs.log.History.push.Goals as goal
use Rattle.fb_history.proofs.log.History.push.Goals.{then-is_event, else-is_event}

pub invariant_of-self-in-Ok : goal.invariant_of-self-in-Ok
invariant_of-self-in-Ok c =
    let records = records_in c.self.inside.records.items in
    let start = c.self.inside.start in
    let pages = start.pages in
    let made = c.in_ok-record.ensures.ok in
    let it = c.in_ok-record.record in
    let turns : c.turns_of-turns.result ≡ on_page pages c.args.caller + turns_of c.args.caller records =
    c.turns_of-turns.ensures ∙ ap (λ st. all_turns st c.args.caller) (sym c.self.view_is) in
    let more : c.push_reserved.new.self.items ≡ c.self.inside.records.items ++ it ∷ [] = c.push_reserved.ensures.items ∙ ap (λ rs. rs ++ it ∷ []) c.in_ok-reserve.ensures.items in
    let by : it.value.caller ≡ c.args.caller = ap (λ (r : Record). r.caller) made in
    let all : records_in c.push_reserved.new.self.items ≡ records ++ it.value ∷ [] = shares_pushed c.self.inside.records.items c.push_reserved.new.self.items it more in
    record {
      pages_are =
          c.in-Ok.ensures.entries ∙ ap (λ n. insert_entry nat_cmp c.self.inside.turns.entries c.args.caller (n + 1)) (turns ∙ sym (on_all pages records c.args.caller))
          ∙ ap (λ es. insert_entry nat_cmp es c.args.caller (on_page (pages_after pages records) c.args.caller + 1)) c.self.invariant.pages_are
          ∙ ap (λ n. insert_entry nat_cmp (pages_after pages records) n (on_page (pages_after pages records) n + 1)) (sym by)
          ∙ sym (pages_pushed pages records it.value)
          ∙ sym (ap (λ rs. pages_after pages rs) all);
      within = grind (arith, common_steps);
      fits = c.self.invariant.fits;
      pages_fit = c.self.invariant.pages_fit;
      turns_are =
          turns_shared pages c.self.inside.records.items c.push_reserved.new.self.items it more c.self.invariant.turns_are
          (ap (λ (r : Record). r.turn) made ∙ ap (λ n. n + 1) turns ∙ sym (ap (λ n. on_page pages n + turns_of n records + 1) by));
      event_is =
          let last = c.last_number-number.ensures.last ∙ ap last_number (sym c.self.view_is) in
          let at : c.last_number-number.result + 1 ≡ start.before + length records + 1 = omega (arith, last) in
          let known : is_event it.value ≡ c.is_event.result = ap is_event made ∙ sym c.is_event.ensures in
          let pushed = ap (λ rs. last_event_in start.last_event start.before rs) all ∙ event_pushed start.last_event start.before records it.value in
          let chosen : Bool → ℕ = λ b. if b then start.before + length records + 1 else last_event_in start.last_event start.before records in
          elim c.if-is_event.branch [
            | then-is_event w ↦ w.last_event-is ∙ at ∙ sym (pushed ∙ ap chosen (known ∙ w.if-is_event.true))
            | else-is_event w ↦ w.last_event-is ∙ c.self.invariant.event_is ∙ sym (pushed ∙ ap chosen (known ∙ w.if-is_event.false))
          ];
    }
