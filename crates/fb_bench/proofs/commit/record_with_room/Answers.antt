-- The room is taken back where the commit could not be recorded.
use Rattle.fb_entries.proofs.Findings.{taken_back}
use Rattle.fb_bench.proofs.commit.record_with_room.Goals as goal

pub returns-in-Err-clause-back : goal.returns-in-Err-clause-back
returns-in-Err-clause-back c =
    taken_back c.args.entries.now c.make_room.new.self c.take_back.new.self c.args.renewal.now c.in_ok-make_room.ensures.ok
    (record { entries = c.take_back.ensures.entries; readies = c.take_back.ensures.ready })
