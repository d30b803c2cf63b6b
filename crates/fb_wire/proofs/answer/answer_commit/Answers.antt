use Rattle.std.proofs.{Common.{◌≡◌, take}, lemmas.List.{take-map}}
use Rattle.fb_bench.specs.{Calls.{Exchanges}, Records.{listed}}
use Rattle.fb_library.specs.Changes.{edit_of, edits_of}
use Rattle.fb_wire.proofs.Conversations.{reaches_itself}
use Rattle.fb_wire.proofs.answer.answer_commit.Goals as goal

pub returns-in-Ok : goal.returns-in-Ok
returns-in-Ok g c = λ held.
    let asked = rw c.in-Ok.is at c.changes_of.ensures in
    let first : take 17 (edits_of c.in-Ok.changes.items) ≡ listed c.in-Ok.changes.items = take-map edit_of 17 c.in-Ok.changes.items in
    let said = rw c.deref.ensures.value at (c.answer_call.ensures held) in
    rw (asked, first) said

pub returns-in-Err-Memory : goal.returns-in-Err-Memory
returns-in-Err-Memory g c = λ held. (_, reaches_itself (Exchanges g.D.Desk.step g.D.Desk.checkpoint_step g.D.Desk.read_step) _ _)
