-- Texts that replace what was read before.
use Rattle.std.proofs.Common.{◌≡◌, ◌≢◌, ℕ, zero, suc, ◌<◌, List, [], ◌∷◌, ◌++◌, length, set, slice_get, unwrap_or, Option, Some, None, refl, sym, ap, subst, ◌∙◌, arith}
use Rattle.std.proofs.lemmas.Option.{unwrap_or-slice_get, slice_get-get_or}
use Rattle.std.proofs.lemmas.List.{append_assoc, get_or-set_same, length-set, same_lists, set_at}
use Rattle.std.specs.{declared.sync.Arc.{Arc}, declared.alloc.Global.{Global}}
use Rattle.fb_deploy.specs.{Library.Filed.{filed_text}, Library.declared.filed.Version.{Version}}
use Rattle.fb_jobs.specs.{Reads.{Seen}, Replaced.{all_replaced, more_replaced, replaced, unless_replaced}, Texts.{there}, declared.keys.texts.Replacement.{Replacement}}

-- ---- one more, and several more

pub replaced_after : (reads : List Seen) (some more : List Replacement) → all_replaced reads (some ++ more) ≡ all_replaced (all_replaced reads some) more
replaced_after reads [] more = refl
replaced_after reads (it ∷ some) more = replaced_after (replaced reads it) some more

pub replaced_count : (reads : List Seen) (some : List Replacement) → length (all_replaced reads some) ≡ length reads
replaced_count reads [] = refl
replaced_count reads (it ∷ some) = replaced_count (replaced reads it) some ∙ length-set reads it.place (there (filed_text it.version.value))

-- ---- what is read at a place

other_place : {X : Type 0} (xs : List X) (i j : ℕ) (x : X) → j ≢ i → slice_get (set xs i x) j ≡ slice_get xs j
other_place [] i j x other = refl
other_place (y ∷ xs) zero zero x other = absurd (other refl)
other_place (y ∷ xs) zero (suc j) x other = refl
other_place (y ∷ xs) (suc i) zero x other = refl
other_place (y ∷ xs) (suc i) (suc j) x other = other_place xs i j x (λ same. other (ap (λ n. suc n) same))

this_place : {X : Type 0} (xs : List X) (i : ℕ) (x : X) → i < length xs → slice_get (set xs i x) i ≡ Some x
this_place xs i x below =
    slice_get-get_or (set xs i x) i x (omega (arith, below, length-set xs i x)) ∙ ap (λ (y : _). Some y) (get_or-set_same xs i x x below)

-- ---- one after the other: what was read again up to a place, and then what was read before

module _ (before again rest : List Seen) (some : List Replacement) (was now : Seen) (so_far : all_replaced before some ≡ again ++ was ∷ rest) where
  pub replaced_once_more : (instead : Option (Arc Version Global)) (place : ℕ) → length again ≡ place → unless_replaced was instead ≡ now → all_replaced before (more_replaced some place instead) ≡ (again ++ now ∷ []) ++ rest
  replaced_once_more None place long is =
      so_far ∙ ap (λ (it : Seen). again ++ it ∷ rest) is ∙ sym (append_assoc again (now ∷ []) rest)
  replaced_once_more (Some version) place long is =
      replaced_after before some (record { place = place; version = version } ∷ [])
      ∙ ap (λ (reads : List Seen). set reads place (there (filed_text version.value))) so_far
      ∙ set_at again was rest (there (filed_text version.value)) place long
      ∙ ap (λ (it : Seen). again ++ it ∷ rest) is
      ∙ sym (append_assoc again (now ∷ []) rest)

-- ---- two lists with the same at each place

pub same_by_place : {X : Type 0} (xs ys : List X) → length xs ≡ length ys → ((k : ℕ) → k < length xs → slice_get xs k ≡ slice_get ys k) → xs ≡ ys
same_by_place xs ys long same =
    same_lists xs ys long (λ k d below. sym (unwrap_or-slice_get xs k d) ∙ ap (λ o. unwrap_or o d) (same k below) ∙ unwrap_or-slice_get ys k d)

-- ---- past the end

past_end : {X : Type 0} (xs : List X) (i j : ℕ) (x : X) → slice_get xs j ≡ None → slice_get (set xs i x) j ≡ None
past_end [] i j x none = none
past_end (y ∷ xs) zero zero x none = cc
past_end (y ∷ xs) zero (suc j) x none = none
past_end (y ∷ xs) (suc i) zero x none = none
past_end (y ∷ xs) (suc i) (suc j) x none = past_end xs i j x none

pub replaced_past : (reads : List Seen) (some : List Replacement) (place : ℕ) → slice_get reads place ≡ None → slice_get (all_replaced reads some) place ≡ None
replaced_past reads [] place none = none
replaced_past reads (it ∷ some) place none =
    replaced_past (replaced reads it) some place (past_end reads it.place place (there (filed_text it.version.value)) none)

-- ---- the last text at a place

module _ (reads : List Seen) (some : List Replacement) (it : Replacement) (place : ℕ) where
  pub latest_here : place < length reads → it.place ≡ place → slice_get (all_replaced reads (some ++ it ∷ [])) place ≡ Some (there (filed_text it.version.value))
  latest_here below here =
      ap (λ l. slice_get l place) (replaced_after reads some (it ∷ []))
      ∙ subst (λ p. slice_get (set (all_replaced reads some) p (there (filed_text it.version.value))) place ≡ Some (there (filed_text it.version.value))) (sym here)
      (this_place (all_replaced reads some) place (there (filed_text it.version.value)) (omega (arith, below, replaced_count reads some)))

  pub latest_elsewhere : place ≢ it.place → slice_get (all_replaced reads (some ++ it ∷ [])) place ≡ slice_get (all_replaced reads some) place
  latest_elsewhere other =
      ap (λ l. slice_get l place) (replaced_after reads some (it ∷ []))
      ∙ other_place (all_replaced reads some) it.place place (there (filed_text it.version.value)) other
