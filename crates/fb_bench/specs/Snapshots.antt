-- What is shared of a workbench at the moment of a read.
use Rattle.std.specs.List.{filter_map}
use Rattle.fb_history.specs.{Events.{event_of}, Records.{records_in}}
use Rattle.fb_history.specs.Reads.{Showing, StatusShown, UnitsShown, EventsShown, identity_text, revisions_behind, showing_in}
use Rattle.fb_bench.specs.{declared.snapshot.Snapshot.{Snapshot}, declared.snapshot.Snapshot.TheVariants.{Shown, Status, Units, Records}}

-- what the read shows
abbrev pub shows : Snapshot → Showing
shows (Shown showing) = showing_in showing
shows (Status counts workbench) = StatusShown counts (identity_text workbench)
shows (Units at after texts) = UnitsShown at (revisions_behind after texts)
shows (Records at records) = EventsShown at (filter_map event_of (records_in records.items))
