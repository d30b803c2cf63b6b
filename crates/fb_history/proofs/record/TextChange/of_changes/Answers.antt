-- The changes stand in a box.
use Rattle.fb_history.proofs.record.TextChange.of_changes.Goals as goal

pub returns : goal.returns
returns c = rw c.in_ok-new.ensures.ok c.in_ok-made.ensures
