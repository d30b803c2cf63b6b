-- The record of a number stands one place before it, counted from the start.
use Rattle.std.proofs.{Common.{◌<◌, ◌-◌, ap, ◌∙◌, arith}, lemmas.Bool.Decides.{nat_tests}}
use Rattle.fb_history.specs.{BenchView.{record_at}, Records.{records_in}}
use Rattle.fb_history.proofs.Numbers.{record_here, record_past}
use Rattle.fb_history.proofs.log.History.shared_record.Goals as goal

pub returns-in-Some : goal.returns-in-Some
returns-in-Some c =
    let place = c.args.number - c.before-earlier.result in
    let some : 0 < place = grind (arith, nat_tests) in
    let there = c.in-Some.ensures.lookup in
    record_here c.deref.result.now place c.in-Some.record.now some there.3.0 there.1
    ∙ ap (λ rs. record_at (records_in rs) place) c.deref.ensures.value ∙ ap (λ n. record_at (records_in c.self.inside.records.items) (c.args.number - n)) c.before-earlier.ensures
    ∙ ap (λ st. record_at st.log.records (c.args.number - c.args.self.now.origin.before)) c.self.view_is

pub returns-in-None : goal.returns-in-None
returns-in-None c =
    let place = c.args.number - c.before-earlier.result in
    let some : 0 < place = grind (arith, nat_tests) in
    record_past c.deref.result.now place some c.in-None.ensures.lookup.3
    ∙ ap (λ rs. record_at (records_in rs) place) c.deref.ensures.value ∙ ap (λ n. record_at (records_in c.self.inside.records.items) (c.args.number - n)) c.before-earlier.ensures
    ∙ ap (λ st. record_at st.log.records (c.args.number - c.args.self.now.origin.before)) c.self.view_is
