-- The block begins with the first part, or the first part with the block.
use Rattle.std.proofs.{Common.{◌++◌, [], ℕ, List, sym, ◌∙◌, ap, append_assoc, append-nil}, lemmas.Option.{IfSome_then}}
use Rattle.fb_placing.proofs.homes.end_finder.rest_after.Goals as goal

pub returns-in-Some : goal.returns-in-Some
returns-in-Some c =
    let start = c.args.start.now in
    let block = c.args.block.now in
    IfSome_then c.after-in-Some.result c.after-in-Some.ensures (λ rest end. (
      [],
      ap (λ (e : List ℕ). start ++ e) end ∙ sym (append_assoc start c.in-Some.name.now rest.now) ∙ ap (λ (b : List ℕ). b ++ rest.now) (sym c.in-Some.ensures) ∙ ap (λ (r : List ℕ). block ++ r) (sym (append-nil rest.now)),
    ))

pub returns-in-None : goal.returns-in-None
returns-in-None c =
    let end = c.args.end.now in
    IfSome_then c.after-in-None.result c.after-in-None.ensures (λ rest start. (end, ap (λ (s : List ℕ). s ++ end) start ∙ append_assoc c.args.block.now rest.now end))
