-- What is indexed of the units after one of them was replaced.
use Rattle.std.proofs.Common.{ℕ, false, List, refl, ap, ◌∙◌, unwrap_or}
use Rattle.fb_tree.specs.Mentions.{Mentioned, nothing_mentioned}
use Rattle.fb_index.specs.Indexed.{Indexed, nothing_indexed, IsIndexedAs, SameUnit}

pub indexed_none : (unit : List ℕ) → IsIndexedAs nothing_indexed unit nothing_mentioned
indexed_none unit = record { parts = λ name. refl; of_values = λ name. refl; structure = refl }

pub still_indexed : {old new : Indexed} {unit : List ℕ} {m : Mentioned} → SameUnit old new unit → IsIndexedAs old unit m → IsIndexedAs new unit m
still_indexed same was = record {
  parts = λ name. same.parts name ∙ was.parts name;
  of_values = λ name. same.of_values name ∙ was.of_values name;
  structure = ap (λ o. unwrap_or o false) same.mark ∙ was.structure;
}
