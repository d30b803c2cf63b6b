-- What is after the block begins with a point.
use Rattle.std.proofs.{Common.{◌≡◌, ◌<◌, ◌++◌, ◌∷◌, [], ℕ, List, ◌∙◌, ap, sym, arith, length, slice_index}, lemmas.Bool.Decides.{Decides-eqb}}
use Rattle.fb_placing.specs.Points.{IsInside}
use Rattle.fb_placing.proofs.homes.end_finder.stands_in.Goals as goal

pointed : (whole block rest more : List ℕ) → whole ≡ block ++ (rest ++ more) → 0 < length rest → slice_index rest 0 ≡ 46 → IsInside whole block
pointed whole block [] more parts some point = absurd (omega (arith, some))
pointed whole block (b ∷ rest) more parts some point = (rest ++ more, parts ∙ ap (λ (c : ℕ). block ++ c ∷ (rest ++ more)) point)

pub returns-in-Some-len1-up : goal.returns-in-Some-len1-up
returns-in-Some-len1-up c = λ point.
    let rest = c.in-Some-len1-up.field-0.now in
    let found = c.in-Some-len1-up.ensures in
    let parts = (λ i. sym c.as_bytes.ensures.value i ++ sym c.as_bytes-2.ensures.value i) ∙ found.1 ∙ ap (λ (b : List ℕ). b ++ (rest ++ found.0)) c.as_bytes-3.ensures.value in
    pointed _ _ rest found.0 parts c.in-Some-len1-up.len_at_least ((Decides-eqb (slice_index rest 0) 46).0 point)
