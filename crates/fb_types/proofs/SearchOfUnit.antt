-- A search from one unit.
use Rattle.std.proofs.{Common.{ℕ, List, [], ◌∷◌, Option, Some, None, IfSome, sym, subst, ◌∙◌}, lemmas.Bool.{or_left}}
use Rattle.std.specs.List.{Contains}
use Rattle.fb_tree.proofs.Text.Tests.{or_false}
use Rattle.fb_iface.proofs.{Library.SeenLemmas.{same, same_is, same_self}, Library.WalkLemmas.{Contains-has, has-Contains}}
use Rattle.fb_iface.specs.{Library.View.{Sources}, Library.Rests.{PartRests}, Library.Seen.{has_name}}
use Rattle.fb_types.specs.Reaches.{PartRestsOnRecursive, SomePartRests, SomePartRestsOnRecursive}

pub some_weaker : {X : Type 0} (o : Option X) (P Q : X → Type 0) → ((x : X) → P x → Q x) → IfSome o P → IfSome o Q
some_weaker None P Q weaker h = h
some_weaker (Some x) P Q weaker h = weaker x h

module _ (sources : Sources) (unit : List ℕ) where
  of_one : (v : List ℕ) → SomePartRests sources (unit ∷ []) v → PartRests sources unit v
  of_one v r = subst (λ (n : List ℕ). PartRests sources n v) (same_is r.0 unit (sym (or_false (same r.0 unit)) ∙ has-Contains r.0 (unit ∷ []) r.1.0)) r.1.1

  to_one : (v : List ℕ) → PartRests sources unit v → SomePartRests sources (unit ∷ []) v
  to_one v r = (unit, (Contains-has unit (unit ∷ []) (or_left (same unit unit) (has_name [] unit) (same_self unit)), r))

  pub whole_of_one : (names : List (List ℕ)) (v : List ℕ) → (Contains names v → SomePartRests sources (unit ∷ []) v) × (SomePartRests sources (unit ∷ []) v → Contains names v) → (Contains names v → PartRests sources unit v) × (PartRests sources unit v → Contains names v)
  whole_of_one names v h = (λ there. of_one v (h.0 there), λ r. h.1 (to_one v r))

  pub loop_of_one : SomePartRestsOnRecursive sources (unit ∷ []) → PartRestsOnRecursive sources unit
  loop_of_one r = (r.0, (of_one r.0 r.1.0, r.1.1))

  pub loop_to_one : PartRestsOnRecursive sources unit → SomePartRestsOnRecursive sources (unit ∷ [])
  loop_to_one r = (r.0, (to_one r.0 r.1.0, r.1.1))
