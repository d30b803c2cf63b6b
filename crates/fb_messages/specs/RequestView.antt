-- A request of the code, as a request of the definitions.
use Rattle.std.specs.Prelude.{map, option_map}
use Rattle.fb_messages.specs.Requests as spec
use Rattle.fb_messages.specs.{declared.request.AskedChange.{AskedChange}, declared.request.AskedChange.TheVariants.{Put, Remove}}
use Rattle.fb_messages.specs.{declared.request.Request.{Request}, declared.request.Request.TheVariants.{Ask, Checkpoint, Commit, Deliver, GiveBack, Read, Take, Work}}
use Rattle.fb_messages.specs.{declared.request.AskedReading.{AskedReading}, declared.request.AskedReading.TheVariants.{Peek, Status, Text, Units, Watch}}

abbrev pub change_view : AskedChange → spec.Change
change_view (Put unit base text) = spec.puts unit.now base text.now
change_view (Remove unit base) = spec.removes unit.now base

abbrev pub reading_view : AskedReading → spec.Reading
reading_view Status = spec.status_read
reading_view (Units after) = spec.units_read (option_map (λ s. s.now) after)
reading_view (Text unit) = spec.text_read unit.now
reading_view (Peek kind unit) = spec.entry_read kind unit.now
reading_view (Watch after wait) = spec.events_read after wait

abbrev pub request_view : Request → spec.Request
request_view (Commit changes) = spec.commit (map change_view changes.items)
request_view (Ask kind unit) = spec.ask kind unit.now
request_view (Work turns) = spec.work turns
request_view Take = spec.take
request_view (Deliver number) = spec.deliver number
request_view (GiveBack kind unit) = spec.give_back kind unit.now
request_view (Checkpoint limits) = spec.checkpoint limits
request_view (Read reading) = spec.read_request (reading_view reading)
