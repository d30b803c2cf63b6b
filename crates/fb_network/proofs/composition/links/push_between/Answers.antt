-- The links are those of the connection's sort.
use Rattle.std.proofs.Common.{ap, sym, ◌∙◌}
use Rattle.std.specs.Option.{option_copied}
use Rattle.fb_network.proofs.Connections.{adds_none}
use Rattle.fb_network.proofs.composition.links.push_between.Goals as goal

pub returns-in-Event : goal.returns-in-Event
returns-in-Event g c = rw c.in-Event.is c.push_pairs.ensures

pub returns-in-Data : goal.returns-in-Data
returns-in-Data g c = rw c.in-Data.is c.push_pairs-in-Data.ensures

pub returns-in-Some : goal.returns-in-Some
returns-in-Some g c = rw (c.in-Adapter.is, ← (sym (ap option_copied c.in-Some.is) ∙ c.find_adapter.ensures), ← c.ports.ensures) c.push_members.ensures

pub returns-in-None : goal.returns-in-None
returns-in-None g c = rw (c.in-Adapter.is, ← (sym (ap option_copied c.in-None.is) ∙ c.find_adapter.ensures)) (adds_none c.args.draft.now)
