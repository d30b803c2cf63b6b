-- Keys among keys.
use Rattle.std.proofs.{Common.{◌≡◌, Bool, true, false, ◌||◌, ◌&&◌, List, [], ◌∷◌, ◌++◌, filter, refl, sym, ap, ◌∙◌, cond}, lemmas.List.Folds.{list_any-append}}
use Rattle.std.proofs.lemmas.Cmp.{eq_by_cmp_equiv}
use Rattle.fb_text.proofs.Tests.{or_false, and_false}
use Rattle.std.specs.List.{list_any}
use Rattle.fb_jobs.specs.{declared.keys.key.Key.{Key}, KeyOrder.{key_cmp_total, same_key}}
use Rattle.fb_jobs.proofs.Order.{keys_equal}

abbrev is_of : Key → List Key → Bool
is_of key keys = list_any (same_key key) keys

same_flips : (a b : Key) → same_key a b ≡ same_key b a
same_flips a b = (eq_by_cmp_equiv key_cmp_total).symm a b

pub of_more : (q k : Key) (ks : List Key) → is_of q (ks ++ k ∷ []) ≡ (is_of q ks || same_key k q)
of_more q k ks = list_any-append (same_key q) ks (k ∷ []) ∙ ap (λ b. is_of q ks || b) (or_false (same_key q k) ∙ same_flips q k)

pub of_both : (q : Key) (ks others : List Key) → is_of q (ks ++ others) ≡ (is_of q ks || is_of q others)
of_both q ks others = list_any-append (same_key q) ks others

module _ (p : Key → Bool) (q k : Key) (ks : List Key) where
  of_one : (same keep : Bool) → same_key q k ≡ same → p k ≡ keep → is_of q (filter p ks) ≡ (is_of q ks && p q) → is_of q (cond keep (k ∷ filter p ks) (filter p ks)) ≡ ((same || is_of q ks) && p q)
  of_one true true at keeps rest = ap (λ b. b || is_of q (filter p ks)) at ∙ sym (ap p (keys_equal q k at) ∙ keeps)
  of_one true false at keeps rest =
      let here : p q ≡ false = ap p (keys_equal q k at) ∙ keeps in
      rest ∙ ap (λ b. is_of q ks && b) here ∙ and_false (is_of q ks) ∙ sym here
  of_one false true at keeps rest = ap (λ b. b || is_of q (filter p ks)) at ∙ rest
  of_one false false at keeps rest = rest

-- the keys that pass a test
pub of_filtered : (p : Key → Bool) (q : Key) (ks : List Key) → is_of q (filter p ks) ≡ (is_of q ks && p q)
of_filtered p q [] = refl
of_filtered p q (k ∷ ks) = of_one p q k ks (same_key q k) (p k) refl refl (of_filtered p q ks)
