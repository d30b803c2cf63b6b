-- Equality of what is compared in parts, told part by part.
use Rattle.std.proofs.Common.{ℕ, ◌≡◌, ◌+◌, false, ◌&&◌, List, ◌++◌, length, nat_eq, refl, sym, ap, ◌∙◌, arith, length-append}
use Rattle.std.specs.{declared.cmp.Ordering.{Ordering}, declared.cmp.Ordering.TheVariants.{Equal}, Cmp.{tied_itself}}
use Rattle.std.specs.{Ordering.{eq_by_cmp, is_eq, nat_cmp, ordering_then}, Cmp.Lexicographic.{nat_list_cmp_total, pointwise, texts_ties}}
use Rattle.fb_tree.specs.{Text.Order.{name_cmp}, declared.network.Sort.{Sort}}
use Rattle.fb_network.specs.Sorts.{number_of, same_sort}
use Rattle.fb_network.proofs.{Equals.{not_at}, Texts.{by_parts}}

-- one start before both texts
pub by_ends : (xs us vs : List ℕ) → name_cmp (xs ++ us) (xs ++ vs) ≡ name_cmp us vs
by_ends xs us vs = by_parts xs xs us vs refl ∙ ap (λ o. ordering_then o (name_cmp us vs)) (tied_itself nat_list_cmp_total xs)

pub tied : (xs ys : List ℕ) → xs ≡ ys → name_cmp xs ys ≡ Equal
tied xs ys e = sym (ap (name_cmp xs) e) ∙ tied_itself nat_list_cmp_total xs

pub ruleset ends = (by_ends, tied)

pub sorts_told : (a b : Sort) → is_eq (nat_cmp (number_of a) (number_of b)) ≡ same_sort a b
sorts_told a b = grind arith

-- the last part first
pub told_back : (a b : Ordering) → is_eq (ordering_then a b) ≡ (is_eq b && is_eq a)
told_back a b = grind arith

-- the first part of three, and then the last one first
pub told_last : (a b c : Ordering) → is_eq (ordering_then a (ordering_then b c)) ≡ (is_eq a && (is_eq c && is_eq b))
told_last a b c = grind arith

-- ends and then starts of one length
pub text_told : (xs us ys vs : List ℕ) → length xs ≡ length ys → eq_by_cmp name_cmp (xs ++ us) (ys ++ vs) ≡ (pointwise nat_eq us vs && pointwise nat_eq xs ys)
text_told xs us ys vs e = ap is_eq (by_parts xs ys us vs e) ∙ told_back (name_cmp xs ys) (name_cmp us vs) ∙ (λ i. sym (texts_ties us vs) i && sym (texts_ties xs ys) i)

-- texts of two lengths
pub length_told : (xs us ys vs : List ℕ) → (length xs + length us ≡ length ys + length vs → ⊥) → eq_by_cmp name_cmp (xs ++ us) (ys ++ vs) ≡ false
length_told xs us ys vs n = not_at (xs ++ us) (ys ++ vs) (λ e. n (sym (sym (length-append ys vs) ∙ ap length e ∙ length-append xs us)))

pub ruleset texts = (text_told, length_told)

pub ruleset tellings = (sorts_told, told_last)
