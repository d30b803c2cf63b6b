use Rattle.fb_program.proofs.arguments.host_in.Goals as goal

pub returns : goal.returns
returns c =
    ((c.in_ok-port.ensures, c.in_ok-workers.ensures, c.in_ok-seats.ensures, c.in_ok-limits.ensures), c.in_ok-memory.ensures, c.flag_in.ensures, c.in_ok-idle.ensures, c.in_ok-connections.ensures)
