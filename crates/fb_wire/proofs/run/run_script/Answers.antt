-- The conversation of a workbench alone is that of its desk.
use Rattle.std.proofs.Common.{rules}
use Rattle.fb_wire.proofs.{Conversations.{Runs-solo}, Scripts.{says_by}}
use Rattle.fb_wire.proofs.run.run_script.Goals as goal

pub returns : goal.returns
returns g c =
    let r = c.run_lines.ensures.conversation in
    let runs = Runs-solo c.new-solo.result c.run_lines.new.desk r.0.pairs r.1 in
    let says = says_by c.run_lines.result _ _ _ r.0.bytes r.0.pairs r.0.out r.0.stands runs.0 in
    (r.0, search (rules, runs.0, runs.1), search (rules, says, runs.1))
