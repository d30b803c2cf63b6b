-- The other start is cut where this one ends.
use Rattle.std.proofs.Common.{◌++◌, sym, ◌∙◌, refl}
use Rattle.std.specs.Ordering.{ordering_then}
use Rattle.fb_tree.specs.Text.Order.{name_cmp}
use Rattle.fb_network.proofs.Texts.{by_other_cut}
use Rattle.fb_network.proofs.paths.compare.compare_shorter.Goals as goal

pub returns : goal.returns
returns c =
    c.compare_then_whole.ensures
    ∙ (λ i. ordering_then (name_cmp c.args.start.now (c.split_at.ensures.front i)) (name_cmp c.args.end.now (c.split_at.ensures.back i ++ c.args.other_end.now)))
    ∙ sym (by_other_cut c.args.start.now c.args.end.now c.args.other_start.now c.args.other_end.now _ refl c.requires)
