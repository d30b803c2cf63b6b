-- First places of names, and the items that are listed there.
use Rattle.std.proofs.Common.{ℕ, ◌≡◌, ◌<◌, ◌+◌, ◌==◌, Bool, true, false, cond, List, [], ◌∷◌, ◌++◌, Option, Some, length, map, get_or, refl, sym, ◌∙◌, ap, subst, arith, eq-eqb}
use Rattle.std.proofs.{lemmas.Bool.Decides.{Decides-eqb}, lemmas.Option.{slice_get_read}, lemmas.Slice.Eq.{bytes_eq-Decides}}
use Rattle.std.specs.{Prelude.{◌≢◌, filter, option_map, slice_get}, Str.{bytes_eq}}
use native.Mathlib.Decide.{dec_lt}
use Rattle.fb_placing.specs.ByResource.{AreListed, IsFirst, IsFirstPlace, IsNowhere, indexes_more, indexes_of}
use Rattle.fb_placing.specs.{declared.plan.command_index.CommandIndex.{CommandIndex}, declared.plan.assigned_commands.AssignedCommand.{AssignedCommand}}
use Rattle.fb_placing.proofs.TableLemmas.{same_text}

-- the name does not stand at this place either
pub passed_place : (names : List (List ℕ)) (i : ℕ) (x name : List ℕ) → i < length names → x ≡ get_or names i x → bytes_eq x name ≡ false → ((k : ℕ) → k < i → slice_get names k ≢ Some name) → (k : ℕ) → k < i + 1 → slice_get names k ≢ Some name
passed_place names i x name lt e differs before k below there =
    elim (dec_lt k i) [
      | Prim.yes less ↦ before k less there
      | Prim.no more ↦
          let at : k ≡ i = omega arith in
          let read : slice_get names i ≡ Some x = slice_get_read names (length names) i x refl lt e in
          let given : Some x ≡ Some name = sym read ∙ ap (slice_get names) (sym at) ∙ there in
          let same : x ≡ name = cc in
          let alike = (bytes_eq-Decides x name).1 same in
          let no : true ≡ false = sym alike ∙ differs in
          (let never : ⊥ = cc in never)
    ]

-- a place where a name stands first is a first place
pub found_first : (names : List (List ℕ)) (place : ℕ) (name : List ℕ) → IsFirstPlace names place name → IsFirst names place
found_first names place name first other there =
    let given : Some name ≡ Some other = sym first.0 ∙ there in
    let same : name ≡ other = cc in
    subst (IsFirstPlace names place) same first

-- a name has one first place
one_place : (names : List (List ℕ)) (p q : ℕ) (name : List ℕ) → IsFirstPlace names p name → IsFirstPlace names q name → p ≡ q
one_place names p q name a b =
    elim (dec_lt p q) [
      | Prim.yes less ↦ absurd (b.1 p less a.0)
      | Prim.no more ↦ elim (dec_lt q p) [
        | Prim.yes less ↦ absurd (a.1 q less b.0)
        | Prim.no above ↦ omega arith
      ]
    ]

-- one order more
indexes_pushed : (commands : List AssignedCommand) (x : AssignedCommand) (name : List ℕ) (b : Bool) → bytes_eq name x.resource.now ≡ b → indexes_of (commands ++ x ∷ []) name ≡ indexes_of commands name ++ cond b (x.index ∷ []) []
indexes_pushed [] x name b e = by_test b e
  where
    by_test : (t : Bool) → bytes_eq name x.resource.now ≡ t → map (λ (o : AssignedCommand). o.index) (cond (bytes_eq name x.resource.now) (x ∷ []) []) ≡ cond t (x.index ∷ []) []
    by_test true f = ap (λ (t : Bool). map (λ (o : AssignedCommand). o.index) (cond t (x ∷ []) [])) f
    by_test false f = ap (λ (t : Bool). map (λ (o : AssignedCommand). o.index) (cond t (x ∷ []) [])) f
indexes_pushed (y ∷ commands) x name b e = by_first (bytes_eq name y.resource.now) (indexes_pushed commands x name b e)
  where
    passed : List AssignedCommand → List AssignedCommand
    passed os = filter (λ (o : AssignedCommand). bytes_eq name o.resource.now) os

    by_first : (t : Bool) → indexes_of (commands ++ x ∷ []) name ≡ indexes_of commands name ++ cond b (x.index ∷ []) [] → map (λ (o : AssignedCommand). o.index) (cond t (y ∷ passed (commands ++ x ∷ [])) (passed (commands ++ x ∷ []))) ≡ map (λ (o : AssignedCommand). o.index) (cond t (y ∷ passed commands) (passed commands)) ++ cond b (x.index ∷ []) []
    by_first true more = ap (λ (l : List CommandIndex). y.index ∷ l) more
    by_first false more = more

not_alike : (a b : List ℕ) → (a ≡ b → ⊥) → bytes_eq a b ≡ false
not_alike a b differ = by_test (bytes_eq a b) refl
  where
    by_test : (t : Bool) → bytes_eq a b ≡ t → t ≡ false
    by_test true e = absurd (differ (same_text a b e))
    by_test false e = refl

nothing_more : (l : List CommandIndex) → l ++ [] ≡ l
nothing_more [] = refl
nothing_more (x ∷ l) = ap (λ (m : List CommandIndex). x ∷ m) (nothing_more l)

module _ (names : List (List ℕ)) (commands : List AssignedCommand) (x : AssignedCommand) where
  -- the order is of no resource of that name
  other_resource : (name : List ℕ) → (name ≡ x.resource.now → ⊥) → indexes_of (commands ++ x ∷ []) name ≡ indexes_of commands name
  other_resource name differ = indexes_pushed commands x name false (not_alike name x.resource.now differ) ∙ nothing_more (indexes_of commands name)

  -- the item of an order is listed at the first place of its resource
  pub listed_more : (old new : ℕ → Option (List CommandIndex)) (p : ℕ) → AreListed names old commands → IsFirstPlace names p x.resource.now → ((k : ℕ) → new k ≡ indexes_more old p x.index k) → AreListed names new (commands ++ x ∷ [])
  listed_more old new p listed first more k name is = more k ∙ by_place (k == p) refl
    where
      by_place : (b : Bool) → (k == p) ≡ b → cond b (option_map (λ items. items ++ x.index ∷ []) (old k)) (old k) ≡ Some (indexes_of (commands ++ x ∷ []) name)
      by_place true e =
          let at : k ≡ p = (Decides-eqb k p).0 e in
          let given : Some name ≡ Some x.resource.now = sym is.0 ∙ ap (slice_get names) at ∙ first.0 in
          let same : name ≡ x.resource.now = cc in
          ap (option_map (λ (items : List CommandIndex). items ++ x.index ∷ [])) (listed k name is)
          ∙ ap (λ (l : List CommandIndex). Some l) (sym (indexes_pushed commands x name true ((bytes_eq-Decides name x.resource.now).1 same)))
      by_place false e =
          let differ : name ≡ x.resource.now → ⊥ = λ same. (let at = one_place names k p x.resource.now (subst (IsFirstPlace names k) same is) first in let no = sym (eq-eqb k p at) ∙ e in let never : ⊥ = cc in never) in
          listed k name is ∙ ap (λ (l : List CommandIndex). Some l) (sym (other_resource name differ))

  -- the order is of a resource that is not among the names
  pub listed_same : (lists : ℕ → Option (List CommandIndex)) → AreListed names lists commands → IsNowhere names x.resource.now → AreListed names lists (commands ++ x ∷ [])
  listed_same lists listed nowhere k name is =
      let differ : name ≡ x.resource.now → ⊥ = λ same. nowhere k (is.0 ∙ ap (λ (n : List ℕ). Some n) same) in
      listed k name is ∙ ap (λ (l : List CommandIndex). Some l) (sym (other_resource name differ))
