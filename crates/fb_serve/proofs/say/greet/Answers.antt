use Rattle.std.proofs.Common.{rules}
use Rattle.fb_serve.proofs.say.greet.Goals as goal

pub returns-clause-held : goal.returns-clause-held
returns-clause-held g c =
    (c.port-port.result, search rules, rw (c.as_bytes.ensures.value, c.in-Ok-format.ensures.ok) at c.write_all.ensures.held)
