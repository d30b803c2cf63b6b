-- The start is compared with the prefix of the whole.
use Rattle.std.proofs.Common.{sym, ◌∙◌, refl, arith}
use Rattle.std.specs.Ordering.{ordering_then}
use Rattle.fb_tree.specs.Text.Order.{name_cmp}
use Rattle.fb_network.proofs.Texts.{by_cut, by_start}
use Rattle.fb_network.proofs.paths.compare.compare_whole.Goals as goal

pub returns-then-whole-start : goal.returns-then-whole-start
returns-then-whole-start c = c.cmp.ensures ∙ sym (by_start c.args.whole.now c.args.start.now c.args.end.now c.if-whole-start.true)

pub returns : goal.returns
returns c =
    c.compare_both.ensures
    ∙ (λ i. ordering_then (name_cmp (c.split_at.ensures.front i) c.args.start.now) (name_cmp (c.split_at.ensures.back i) c.args.end.now))
    ∙ sym (by_cut c.args.whole.now c.args.start.now c.args.end.now _ refl (omega (arith, c.if-whole-start.false)))
