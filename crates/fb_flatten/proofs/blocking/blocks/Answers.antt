-- What is known to be whole does not block, nor what is known to be without faults.
use Rattle.std.proofs.Common.{sym, ◌∙◌}
use Rattle.fb_types.specs.Library.Seen.{has_name}
use Rattle.fb_flatten.proofs.HintLemmas.{known_whole, not_blocking}
use Rattle.fb_flatten.proofs.blocking.blocks.Goals as goal

pub returns-then-is_known_whole : goal.returns-then-is_known_whole
returns-then-is_known_whole g c =
    sym (not_blocking (g.V.View.sources c.args.view.now) c.args.name.now (has_name c.args.parts.now.keys)
    (known_whole (g.V.View.sources c.args.view.now) (g.K.Hints.hints c.args.known.now) c.args.name.now c.requires.right (sym c.is_known_whole.ensures ∙ c.if-is_known_whole.true)))

pub returns-then-is_faultless : goal.returns-then-is_faultless
returns-then-is_faultless g c =
    sym (not_blocking (g.V.View.sources c.args.view.now) c.args.name.now (has_name c.args.parts.now.keys)
    (c.requires.faultless c.args.name.now (sym c.is_faultless.ensures ∙ c.if-is_faultless.true)))
