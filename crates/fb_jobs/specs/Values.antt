-- Reads and values of the program as contracts see them.
use Rattle.std.specs.{Prelude.{◌≡◌, ℕ, List, map, Option, Some, None}, Option.{MatchOption, option_map, option_copied}, declared.sync.Arc.{Arc}}
use Rattle.std.specs.declared.alloc.Global.{Global}
use Rattle.fb_deploy.specs.{Library.Texts.{Held}, Library.Filed.{filed_text}, Library.declared.filed.Version.{Version}, Parse.Source.{Written}}
use Rattle.fb_deploy.specs.{Flatten.Net.{plain_net}, Deploy.{plain_deploy}}
use Rattle.fb_jobs.specs.{Keys.{Finding, FaultsFound, NetFound, DeployFound}, Reads.{Seen}, declared.keys.read.Read.{Read}, declared.keys.texts.TextRead.{TextRead}}
use Rattle.fb_jobs.specs.{declared.values.value.Value.{Value}, declared.values.value.Value.TheVariants.{Faults, Net, Deploy}}

abbrev pub found_in : ℕ → Option (Arc Written Global) → Option Held
found_in revision None = None
found_in revision (Some source) = Some (record { revision = revision; text = source.value.text })

abbrev pub seen_of : Read → Seen
seen_of it = record { name = it.name; found = found_in it.revision it.source }

abbrev pub all_seen : List Read → List Seen
all_seen reads = map seen_of reads

-- what is kept of a read
abbrev pub version_held : Version → Held
version_held it = (filed_text it).held

abbrev pub text_seen : TextRead → Seen
text_seen it = record { name = it.name; found = option_map version_held (option_copied it.version) }

-- a source of that name, or nothing with revision 0
abbrev pub IsOwn : Read → Type 0
IsOwn it = MatchOption it.source (it.revision ≡ 0) (λ source. source.value.unit ≡ it.name)

abbrev pub finding_of : Value → Finding
finding_of (Faults faults) = FaultsFound faults.items
finding_of (Net net) = NetFound (plain_net net)
finding_of (Deploy deploy) = DeployFound (plain_deploy deploy)
