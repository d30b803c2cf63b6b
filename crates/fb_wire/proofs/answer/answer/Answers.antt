use Rattle.fb_wire.proofs.answer.answer.Goals as goal

pub returns-in-Some-Commit : goal.returns-in-Some-Commit
returns-in-Some-Commit g c =
    let request = rw c.in-Some-Commit.is at c.in-Some-Commit.field-0-is in
    let said = rw c.deref.ensures.value at (c.answer_commit.ensures c.args.held.now.items) in
    rw (c.in-Some-Commit.is, request) said

pub returns-in-Some-Ask : goal.returns-in-Some-Ask
returns-in-Some-Ask g c =
    let request = rw c.in-Some-Ask.is at c.in-Some-Ask.field-0-is in
    rw (c.in-Some-Ask.is, request) (c.answer_ask_named.ensures c.args.held.now.items)

pub returns-in-Some-GiveBack : goal.returns-in-Some-GiveBack
returns-in-Some-GiveBack g c =
    let request = rw c.in-Some-GiveBack.is at c.in-Some-GiveBack.field-0-is in
    rw (c.in-Some-GiveBack.is, request) (c.answer_back_named.ensures c.args.held.now.items)

pub returns-in-Some-Checkpoint : goal.returns-in-Some-Checkpoint
returns-in-Some-Checkpoint g c =
    let request = rw c.in-Some-Checkpoint.is at c.in-Some-Checkpoint.field-0-is in
    rw (c.in-Some-Checkpoint.is, request) (c.answer_checkpoint.ensures c.args.held.now.items)

pub returns-in-Some-Read : goal.returns-in-Some-Read
returns-in-Some-Read g c =
    let request = rw c.in-Some-Read.is at c.in-Some-Read.field-0-is in
    rw (c.in-Some-Read.is, request) (c.answer_read.ensures c.args.held.now.items)
