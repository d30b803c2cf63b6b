-- The parts of a path, put together in another way.
use Rattle.std.proofs.{Common.{◌++◌, ◌∷◌, ℕ, List, Some, sym, ◌∙◌, ap, append_assoc, append-nil, arith}, lemmas.Str.Pattern.{split_parts}}
use Rattle.fb_placing.proofs.homes.end_finder.block_of.Goals as goal

pub returns-in-Some : goal.returns-in-Some
returns-in-Some c =
    let start = c.args.start.now in
    let rest = c.in-Some.field-0-1.now in
    let end = split_parts 46 c.args.end.now (Some (c.in-Some.name, c.in-Some.field-0-1)) c.in-Some.ensures.cases (omega arith) in
    (rest, ap (λ (e : List ℕ). start ++ e) end.0 ∙ sym (append_assoc start c.in-Some.name.now (46 ∷ rest)))

pub returns : goal.returns
returns c =
    let end = c.args.end.now in
    let block = c.in_ok-block.block.now in
    let plug = c.in_ok-block.field-0-1.now in
    let port = c.in_ok-outer.field-0-1.now in
    let inside : List ℕ = plug ++ 46 ∷ port in (
      inside ++ end,
      ap (λ (s : List ℕ). s ++ end) (c.in_ok-outer.ensures.parts.0 ∙ ap (λ (o : List ℕ). o ++ 46 ∷ port) c.in_ok-block.ensures.parts.0 ∙ append_assoc block (46 ∷ plug) (46 ∷ port))
          ∙ append_assoc block (46 ∷ inside) end
          ∙ ap (λ (b : List ℕ). b ++ (46 ∷ (inside ++ end))) (sym (append-nil block)),
    )
