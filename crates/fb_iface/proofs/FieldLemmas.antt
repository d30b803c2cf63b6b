-- Names that are found among those that are carried, and one more type in the table of structures.
use Rattle.std.proofs.Common.{◌≡◌, ℕ, Bool, true, false, cond, ◌||◌, List, [], ◌∷◌, ◌++◌, Option, Some, nat_eq, refl, sym, ap, ◌∙◌}
use Rattle.std.specs.{Cmp.{eq_by_cmp_equiv}, Cmp.Lexicographic.{nat_list_cmp_total, pointwise}, List.{list_any}}
use Rattle.fb_tree.proofs.Text.OrderLemmas.{same_name}
use Rattle.fb_library.specs.{Seen.{has_name}, View.{Sources, tree_at}}
use Rattle.fb_library.proofs.SeenLemmas.{has-push, same, same_is}
use Rattle.fb_iface.specs.{Fields.{NoFields, fields_among, fields_of_tree}, CachedFields.{kept_fields}, declared.structures.CachedFields.{CachedFields}}

-- the equality of names is that by their order
same_here : (x q : List ℕ) → pointwise nat_eq x q ≡ same q x
same_here x q = same_name x q ∙ (eq_by_cmp_equiv nat_list_cmp_total).symm x q

pub found_among : (names : List (List ℕ)) (q : List ℕ) → list_any (λ x. pointwise nat_eq x q) names ≡ has_name names q
found_among names q = λ i. list_any (λ x. same_here x q i) names

module _ (sources : Sources) (names : List (List ℕ)) (x q : List ℕ) (old : Option CachedFields) where
  -- the table with one more type, where something is kept of it
  pub kept-more : (kept : CachedFields) (new : Option CachedFields) → kept_fields (Some kept) ≡ fields_of_tree (tree_at sources x) → kept_fields old ≡ fields_among sources names q → new ≡ cond (pointwise nat_eq x q) (Some kept) old → kept_fields new ≡ fields_among sources (names ++ x ∷ []) q
  kept-more kept new known before updates =
      ap kept_fields updates
      ∙ (λ i. kept_fields (cond (same_here x q i) (Some kept) old))
      ∙ by (has_name names q) (same q x) (same_is q x) before
      ∙ ap (λ b. cond b (fields_of_tree (tree_at sources q)) NoFields) (sym (has-push names x q))
    where
      by : (h s : Bool) → (s ≡ true → q ≡ x) → kept_fields old ≡ cond h (fields_of_tree (tree_at sources q)) NoFields → kept_fields (cond s (Some kept) old) ≡ cond (h || s) (fields_of_tree (tree_at sources q)) NoFields
      by true true is e = known ∙ ap (λ n. fields_of_tree (tree_at sources n)) (sym (is refl))
      by false true is e = known ∙ ap (λ n. fields_of_tree (tree_at sources n)) (sym (is refl))
      by true false is e = e
      by false false is e = e

  -- and where nothing is kept of it
  pub none-more : NoFields ≡ fields_of_tree (tree_at sources x) → kept_fields old ≡ fields_among sources names q → kept_fields old ≡ fields_among sources (names ++ x ∷ []) q
  none-more known before =
      by (has_name names q) (same q x) (same_is q x) before
      ∙ ap (λ b. cond b (fields_of_tree (tree_at sources q)) NoFields) (sym (has-push names x q))
    where
      by : (h s : Bool) → (s ≡ true → q ≡ x) → kept_fields old ≡ cond h (fields_of_tree (tree_at sources q)) NoFields → kept_fields old ≡ cond (h || s) (fields_of_tree (tree_at sources q)) NoFields
      by true true is e = e
      by false true is e = e ∙ known ∙ ap (λ n. fields_of_tree (tree_at sources n)) (sym (is refl))
      by true false is e = e
      by false false is e = e
