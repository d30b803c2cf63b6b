-- The names passed so far are finished, and what is composed was missing.
use Rattle.std.proofs.Common.{take}
use Rattle.std.specs.BTreeMap.{get}
use Rattle.fb_types.specs.Text.Order.{name_cmp}
use Rattle.fb_flatten.proofs.FlatsLemmas.{AreComposed}
use Rattle.fb_flatten.proofs.flats.missing_flats.Given as goal

abbrev pub invariant-loop-name : goal.invariant-loop-name
invariant-loop-name g l =
    AreComposed (g.V.View.sources l.view) (g.H.Hints.hints l.hints) l.unit l.order (take l.name-index l.order) (get name_cmp l.composed)
