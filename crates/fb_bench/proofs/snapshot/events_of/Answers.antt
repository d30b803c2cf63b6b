use Rattle.std.proofs.Common.{◌≡◌, ◌∙◌, Some, ap, map, sym, take}
use Rattle.std.specs.List.{filter_map}
use Rattle.fb_history.specs.{Events.{event_of}, Reads.{event_in}, Records.{records_in}}
use Rattle.fb_bench.proofs.Telling.{events_more, kept_none, kept_some}
use Rattle.fb_bench.proofs.snapshot.events_of.Goals as goal
use Rattle.fb_bench.proofs.snapshot.events_of.Goals.{in-Some+in_ok-push, in_default}

pub loop-record-preserved : goal.loop-record-preserved
loop-record-preserved c =
    let it = c.record-item.result.value in
    let before = filter_map event_of (records_in (take c.loop-record.record-index c.args.records.now)) in
    let more = events_more c.args.records.now c.loop-record.record-index c.record-item.result c.loop-record-test.true c.record-item.is in
    elim c.match-branch-2.branch [
      | in-Some+in_ok-push w ↦
          let event : Some (event_in w.in-Some.event) ≡ event_of it = (rw w.in-Some.is at c.in_ok-event.ensures) ∙ ap event_of c.deref.ensures in
          (λ k. map event_in (w.events-is k).items)
          ∙ kept_some event_in c.loop-record.events.items _ before w.in-Some.event (event_of it) w.in_ok-push.ensures.items c.loop-record.invariant event
          ∙ sym more
      | in_default w ↦
          let event = (rw w.in_default.is at c.in_ok-event.ensures) ∙ ap event_of c.deref.ensures in
          (λ k. map event_in (w.events-is k).items)
          ∙ kept_none (map event_in c.loop-record.events.items) before (event_of it) c.loop-record.invariant event
          ∙ sym more
    ]
