use Rattle.fb_program.proofs.arguments.limits_in.Goals as goal

pub returns : goal.returns
returns c = rw c.in_ok-limits.ensures.1 (c.in_ok-units.ensures, c.in_ok-history.ensures)
