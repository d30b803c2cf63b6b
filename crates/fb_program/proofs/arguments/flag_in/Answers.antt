use Rattle.std.proofs.Common.{◌∙◌}
use Rattle.clap.specs.Words.{found_of}
use Rattle.clap.proofs.WalkLemmas.{one_text-rows}
use Rattle.fb_program.proofs.arguments.flag_in.Goals as goal

pub returns : goal.returns
returns c =
    let same = one_text-rows (found_of c.args.matches.now) c.args.name.now in
    (λ given. c.get_flag.ensures.value (same ∙ given), λ absent. c.get_flag.ensures.other (same ∙ absent))
