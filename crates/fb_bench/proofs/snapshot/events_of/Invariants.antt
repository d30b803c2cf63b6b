use Rattle.std.proofs.Common.{◌≡◌, map, take}
use Rattle.std.specs.List.{filter_map}
use Rattle.fb_history.specs.{Events.{event_of}, Reads.{event_in}, Records.{records_in}}
use Rattle.fb_bench.proofs.snapshot.events_of.Given as goal

abbrev pub invariant-loop-record : goal.invariant-loop-record
invariant-loop-record l = map event_in l.events.items ≡ filter_map event_of (records_in (take l.record-index l.records))
