-- The first change whose unit came before, found with the list of what came before.
use Rattle.std.proofs.Common.{◌≡◌, ℕ, ◌+◌, Bool, true, false, List, [], ◌∷◌, ◌++◌, length, refl, sym, ap, ◌∙◌, append_assoc, Option, Some, None, cond, find, length-append}
use Rattle.std.proofs.Math.Seq.{take-append_seam}
use Rattle.std.specs.{List.{enumerate_from}, Option.{option_map}}
use Rattle.fb_jobs.specs.{Reads.{is_among}, Reach.{comes_again, first_repeated}}

-- the first unit that comes again, where some came before the list
abbrev pub repeated_after : List (List ℕ) → List (List ℕ) → Option (List ℕ)
repeated_after before [] = None
repeated_after before (unit ∷ units) = cond (is_among unit before) (Some unit) (repeated_after (before ++ unit ∷ []) units)

abbrev found_from : List (List ℕ) → ℕ → List (List ℕ) → Option (List ℕ)
found_from all place units = option_map (λ placed. placed.1) (find (comes_again all) (enumerate_from place units))

one_more : (before : List (List ℕ)) (unit : List ℕ) → length (before ++ unit ∷ []) ≡ length before + 1
one_more before unit = length-append before (unit ∷ [])

again_by : (all : List (List ℕ)) (place : ℕ) (unit : List ℕ) (units : List (List ℕ)) (b : Bool) → comes_again all (place, unit) ≡ b → found_from all place (unit ∷ units) ≡ cond b (Some unit) (found_from all (place + 1) units)
again_by all place unit units true is = ap (λ c. option_map (λ placed. placed.1) (cond c (Some (place, unit)) (find (comes_again all) (enumerate_from (place + 1) units)))) is
again_by all place unit units false is = ap (λ c. option_map (λ placed. placed.1) (cond c (Some (place, unit)) (find (comes_again all) (enumerate_from (place + 1) units)))) is

again_from : (before units : List (List ℕ)) → found_from (before ++ units) (length before) units ≡ repeated_after before units
again_from before [] = refl
again_from before (unit ∷ units) =
    let seen : comes_again (before ++ unit ∷ units) (length before, unit) ≡ is_among unit before = ap (λ us. is_among unit us) (take-append_seam before (unit ∷ units)) in
    again_by (before ++ unit ∷ units) (length before) unit units (comes_again (before ++ unit ∷ units) (length before, unit)) refl
    ∙ (λ i. cond (seen i) (Some unit) (found_from (sym (append_assoc before (unit ∷ []) units) i) (sym (one_more before unit) i) units))
    ∙ ap (λ o. cond (is_among unit before) (Some unit) o) (again_from (before ++ unit ∷ []) units)

-- it is the first one that an earlier change has
pub again : (units : List (List ℕ)) → first_repeated units ≡ repeated_after [] units
again units = again_from [] units
