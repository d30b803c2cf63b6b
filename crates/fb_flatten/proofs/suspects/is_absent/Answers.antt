-- What is known to be whole is present, and so is what is known to be without faults.
use Rattle.std.proofs.Common.{sym, ◌∙◌}
use Rattle.fb_flatten.proofs.HintLemmas.{known_whole, not_absent}
use Rattle.fb_flatten.proofs.suspects.is_absent.Goals as goal

pub returns-then-is_known_whole : goal.returns-then-is_known_whole
returns-then-is_known_whole g c =
    sym (not_absent (g.V.View.sources c.args.view.now) c.args.name.now
    (known_whole (g.V.View.sources c.args.view.now) (g.K.Hints.hints c.args.known.now) c.args.name.now c.requires.right (sym c.is_known_whole.ensures ∙ c.if-is_known_whole.true)))

pub returns-then-is_faultless : goal.returns-then-is_faultless
returns-then-is_faultless g c =
    sym (not_absent (g.V.View.sources c.args.view.now) c.args.name.now
    (c.requires.faultless c.args.name.now (sym c.is_faultless.ensures ∙ c.if-is_faultless.true)))
