-- Tests of equality that are right, of single values and of lists.
use Rattle.std.proofs.{Common.{◌≡◌, ◌↔◌, ℕ, ◌≤◌, List, true, false, IsTrue, map, length, drop, sym, ap, ◌∙◌, arith}, lemmas.List.{drop_all}}
use Rattle.std.specs.{declared.cmp.Ordering.{Ordering}, declared.cmp.Ordering.TheVariants.{Equal}, Ordering.{eq_by_cmp, is_eq}, Cmp.{IsTotalOrder, tied_itself}}
use Rattle.std.specs.BTreeMap.{is_at}
use Rattle.fb_tree.specs.Text.Order.{name_cmp}
use Rattle.fb_tree.proofs.Text.OrderLemmas.{is_equal}
use Rattle.fb_network.specs.{LinkOrder.{border_cmp, border_cmp_total, link_cmp, link_cmp_total}, declared.flat.FlatBlock.{FlatBlock}, declared.flat.Link.{Link}}
use Rattle.fb_network.specs.declared.flat.Border.{Border}
use Rattle.fb_network.proofs.Equals.{bytes_same, exact_border, exact_link, same_bytes}

-- what is told by an order in which only equal items are equal
pub told_by : {X : Type 0} {order : X → X → Ordering} → IsTotalOrder order → ((a b : X) → order a b ≡ Equal → a ≡ b) → (a b : X) → IsTrue (eq_by_cmp order a b) ↔ (a ≡ b)
told_by {order = order} total exact a b = (λ same. exact a b (is_equal (order a b) same), λ e. rw (← e) (ap is_eq (tied_itself total a)))

pub one_link : (a b : Link) → IsTrue (eq_by_cmp link_cmp a b) ↔ (a ≡ b)
one_link = told_by link_cmp_total (λ a b e. exact_link a b (ap is_eq e))

pub one_border : (a b : Border) → IsTrue (eq_by_cmp border_cmp a b) ↔ (a ≡ b)
one_border = told_by border_cmp_total (λ a b e. exact_border a b (ap is_eq e))

-- blocks at one path are told by the names of their types
pub one_block : (a b : FlatBlock) → is_at (name_cmp a.path) b.path ≡ true → IsTrue (is_at (name_cmp a.type_name) b.type_name) ↔ (a ≡ b)
one_block a b e = grind (arith, same_bytes a.path b.path, same_bytes a.type_name b.type_name, bytes_same a.type_name)

pub other_block : (a b : FlatBlock) → is_at (name_cmp a.path) b.path ≡ false → IsTrue false ↔ (a ≡ b)
other_block a b e = grind (arith, bytes_same a.path)

-- ---- lists, item by item

module _ {X Y Z : Type 0} (f : X → Z) (g : Y → Z) where
  -- what is left of both lists is the same where the lists are
  abbrev pub SameLeftBy : List X → List Y → ℕ → Type 0
  SameLeftBy xs ys k = (map f (drop k xs) ≡ map g (drop k ys)) ↔ (map f xs ≡ map g ys)

  pub same_to_end_by : (xs : List X) (ys : List Y) (k : ℕ) → length xs ≡ length ys → length xs ≤ k → SameLeftBy xs ys k → map f xs ≡ map g ys
  same_to_end_by xs ys k long past left = left.0 (ap (map f) (drop_all k xs past) ∙ sym (ap (map g) (drop_all k ys (omega (arith, long)))))
