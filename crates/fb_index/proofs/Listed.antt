-- Names in a list, and further ones.
use Rattle.std.proofs.Common.{◌≡◌, ℕ, Bool, true, false, ◌||◌, ◌&&◌, not, List, [], ◌∷◌, ◌++◌, filter, refl, sym, ap, ◌∙◌, cond}
use Rattle.std.specs.BTreeMap.{is_at}
use Rattle.fb_text.specs.Order.{name_cmp}
use Rattle.fb_library.specs.Seen.{has_name}
use Rattle.fb_library.proofs.SeenLemmas.{has-append, has-push, same_is}
use Rattle.fb_index.proofs.Lookups.{flips}

last_bits : (a b c : Bool) → ((a || c) || b) ≡ ((a || b) || c)
last_bits true b c = refl
last_bits false true true = refl
last_bits false true false = refl
last_bits false false true = refl
last_bits false false false = refl

further_bits : (a b c : Bool) → (a || (b || c)) ≡ ((a || b) || c)
further_bits true b c = refl
further_bits false b c = refl

out_bits : (a b c : Bool) → ((a && not c) || (b && not c)) ≡ ((a || b) && not c)
out_bits true b true = and_none b
  where
    and_none : (b : Bool) → (b && false) ≡ false
    and_none true = refl
    and_none false = refl
out_bits true b false = refl
out_bits false b c = refl

-- a name at the end of the list
pub one_listed : (listed further : List (List ℕ)) (name other : List ℕ) → has_name ((listed ++ name ∷ []) ++ further) other ≡ (has_name (listed ++ further) other || is_at (name_cmp name) other)
one_listed listed further name other =
    has-append (listed ++ name ∷ []) further other
    ∙ ap (λ b. b || has_name further other) (has-push listed name other ∙ ap (λ b. has_name listed other || b) (flips other name))
    ∙ last_bits (has_name listed other) (has_name further other) (is_at (name_cmp name) other)
    ∙ ap (λ b. b || is_at (name_cmp name) other) (sym (has-append listed further other))

-- a name among the further ones
pub one_further : (listed further more : List (List ℕ)) (name other : List ℕ) → has_name more other ≡ (has_name further other || is_at (name_cmp name) other) → has_name (listed ++ more) other ≡ (has_name (listed ++ further) other || is_at (name_cmp name) other)
one_further listed further more name other is =
    has-append listed more other
    ∙ ap (λ b. has_name listed other || b) is
    ∙ further_bits (has_name listed other) (has_name further other) (is_at (name_cmp name) other)
    ∙ ap (λ b. b || is_at (name_cmp name) other) (sym (has-append listed further other))

module _ (name other : List ℕ) where
  left_one : (n : List ℕ) (ns : List (List ℕ)) (b : Bool) → is_at (name_cmp name) n ≡ b → has_name (filter (λ x. not (is_at (name_cmp name) x)) ns) other ≡ (has_name ns other && not (is_at (name_cmp name) other)) → has_name (cond (not b) (n ∷ filter (λ x. not (is_at (name_cmp name) x)) ns) (filter (λ x. not (is_at (name_cmp name) x)) ns)) other ≡ (has_name (n ∷ ns) other && not (is_at (name_cmp name) other))
  left_one n ns true at rest = rest ∙ gone (is_at (name_cmp other) n) (has_name ns other) (is_at (name_cmp name) other) (λ is. ap (is_at (name_cmp name)) (same_is other n is) ∙ at)
    where
      gone : (same has out : Bool) → (same ≡ true → out ≡ true) → (has && not out) ≡ ((same || has) && not out)
      gone false has out is = refl
      gone true true out is = refl
      gone true false true is = refl
      gone true false false is = is refl
  left_one n ns false at rest = ap (λ b. is_at (name_cmp other) n || b) rest ∙ stays (is_at (name_cmp other) n) (has_name ns other) (is_at (name_cmp name) other) (λ is. ap (is_at (name_cmp name)) (same_is other n is) ∙ at)
    where
      stays : (same has out : Bool) → (same ≡ true → out ≡ false) → (same || (has && not out)) ≡ ((same || has) && not out)
      stays false has out is = refl
      stays true has out is = sym (ap not (is refl))

  left : (names : List (List ℕ)) → has_name (filter (λ x. not (is_at (name_cmp name) x)) names) other ≡ (has_name names other && not (is_at (name_cmp name) other))
  left [] = refl
  left (n ∷ ns) = left_one n ns (is_at (name_cmp name) n) refl (left ns)

  -- a name that is neither in the list nor among the further ones
  pub none_left : (listed further fewer : List (List ℕ)) → has_name fewer other ≡ (has_name further other && not (is_at (name_cmp name) other)) → has_name (filter (λ x. not (is_at (name_cmp name) x)) listed ++ fewer) other ≡ (has_name (listed ++ further) other && not (is_at (name_cmp name) other))
  none_left listed further fewer is =
      has-append (filter (λ x. not (is_at (name_cmp name) x)) listed) fewer other
      ∙ (λ i. left listed i || is i)
      ∙ out_bits (has_name listed other) (has_name further other) (is_at (name_cmp name) other)
      ∙ ap (λ b. b && not (is_at (name_cmp name) other)) (sym (has-append listed further other))
