-- The start is compared with the text before the cut.
use Rattle.std.proofs.Common.{◌≡◌, take, drop, length, refl, sym, ◌∙◌, arith}
use Rattle.fb_network.proofs.Texts.{by_cut, by_start}
use Rattle.fb_network.proofs.paths.compare.compare_text.Goals as goal

pub returns-then-text-start : goal.returns-then-text-start
returns-then-text-start c = c.cmp.ensures ∙ sym (by_start c.args.text.now c.args.start.now c.args.end.now c.if-text-start.true)

pub returns-in-Some : goal.returns-in-Some
returns-in-Some c =
    let first : c.in-Some.first.now ≡ take (length c.args.start.now) c.args.text.now = c.in-Some.ensures.front in
    let rest : c.in-Some.rest.now ≡ drop (length c.args.start.now) c.args.text.now = c.in-Some.ensures.back in
    let cut = by_cut c.args.text.now c.args.start.now c.args.end.now _ refl (omega (arith, c.if-text-start.false)) in
    grind arith
