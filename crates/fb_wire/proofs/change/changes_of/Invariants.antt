use Rattle.std.proofs.Common.{◌≡◌, Ok, map, take}
use Rattle.fb_library.specs.Changes.{edits_of}
use Rattle.fb_messages.specs.RequestView.{change_view}
use Rattle.fb_wire.specs.Conversations.{edits_in}
use Rattle.fb_wire.proofs.change.changes_of.Given as goal

abbrev pub invariant-loop-one : goal.invariant-loop-one
invariant-loop-one l = edits_in (map change_view (take l.one-index l.asked)) ≡ Ok (edits_of l.changes.items)
