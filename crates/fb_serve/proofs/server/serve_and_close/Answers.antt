use Rattle.fb_serve.proofs.Prints.{closes, closes_in_part, greets, greets_in_part}
use Rattle.fb_serve.proofs.server.serve_and_close.Goals as goal

pub returns-in_default-clause-said : goal.returns-in_default-clause-said
returns-in_default-clause-said g c =
    let greeted = c.in_default.ensures.held in
    greets_in_part greeted.0 greeted.2.0 _ _ greeted.1 greeted.2.1

pub returns-in_default-serve_sessions-clause-said : goal.returns-in_default-serve_sessions-clause-said
returns-in_default-serve_sessions-clause-said g c =
    let greeted = c.in-Ok.ensures.held in
    greets greeted.0 _ _ greeted.1 greeted.2

pub returns-in-Ok-write_all-clause-said : goal.returns-in-Ok-write_all-clause-said
returns-in-Ok-write_all-clause-said g c =
    let greeted = c.in-Ok.ensures.held in
    closes greeted.0 _ _ _ greeted.1 greeted.2 c.in-Ok-write_all.ensures.held

pub returns-in-Err-clause-said : goal.returns-in-Err-clause-said
returns-in-Err-clause-said g c =
    let greeted = c.in-Ok.ensures.held in
    let said = c.in-Err.ensures.held in
    closes_in_part greeted.0 said.0 _ _ _ greeted.1 greeted.2 said.1
