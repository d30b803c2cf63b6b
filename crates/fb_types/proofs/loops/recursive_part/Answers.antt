use Rattle.std.proofs.{Common.{ℕ, List, sym, subst, ◌∙◌}, lemmas.Bool.{false≢true}}
use Rattle.fb_types.specs.Reaches.{RecursivePart}
use Rattle.fb_types.proofs.PartLemmas.{part_of_none}
use Rattle.fb_types.proofs.loops.recursive_part.Goals as goal

pub returns-then-is_some : goal.returns-then-is_some
returns-then-is_some g c =
    let sources = g.V.View.sources c.args.view.now in
    let names = c.args.names.now in
    subst (λ (l : List (List ℕ)). RecursivePart sources names l) (sym c.new.ensures.items)
    (part_of_none sources names (λ r. absurd (false≢true (sym (c.in_ok-order.ensures.recursive.1 r) ∙ sym c.is_some.ensures ∙ c.if-is_some.true))))
