-- Equal slices have the same names.
use Rattle.std.proofs.{Common.{refl}, lemmas.Slice.Eq.{slice_eq-Decides}, lemmas.Bool.Decides.{Decides-eqb}}
use Rattle.fb_tree.proofs.mentioned.are_same_names.Goals as goal

pub returns : goal.returns
returns c = slice_eq-Decides (λ a b. slice_eq-Decides Decides-eqb a b _ refl) _ _ _ c.eq.ensures
