-- What names stand for in a network depends on the texts of the types that it mentions alone.
use Rattle.std.proofs.Common.{◌≡◌, ℕ, Bool, true, false, cond, ◌||◌, List, [], ◌∷◌, None, map, refl, ap, sym, subst, true≢false, arith}
use Rattle.std.proofs.{lemmas.List.Elements.{Contains-append_right}, lemmas.Simd.{map-map}}
use Rattle.std.specs.{FinMap.{get, slice_cmp-IsAntisymmetric, nat_cmp-IsAntisymmetric}, Cmp.Lexicographic.{nat_list_cmp_total}, List.{Contains}}
use Rattle.std.specs.Option.{option_and_then}
use Rattle.fb_tree.specs.{Text.Order.{name_cmp, names_in_order}, Text.declared.name.NameUse.{NameUse}, Mentions.{types_in}}
use Rattle.fb_tree.specs.Tree.{InstanceTree, NetworkTree, TypeTree}
use Rattle.fb_tree.proofs.Text.OrderLemmas.{in_order-members}
use Rattle.fb_library.specs.View.{Sources, tree_at, tree_of}
use Rattle.fb_iface.proofs.TableLemmas.{is_it}
use Rattle.fb_iface.specs.{Names.{has_name, is_same}, Ports.{meanings_in_network, meanings_in_type}}
use Rattle.fb_iface.specs.Scope.{mentioned_type, scope_of_network, scope_of_type, usable}

-- a list in order has its members
pub in_order_has : (names : List (List ℕ)) (name : List ℕ) → Contains names name → Contains (names_in_order names) name
in_order_has names name h = (in_order-members name_cmp nat_list_cmp_total (slice_cmp-IsAntisymmetric nat_cmp-IsAntisymmetric) names name).1 h

-- a name that some name of a list is stands there
named_among : (names : List NameUse) (q : List ℕ) → has_name names q ≡ true → Contains (map (λ n. n.name) names) q
named_among [] q e = absurd (true≢false (sym e))
named_among (x ∷ xs) q e = by (is_same x.name q) refl e (named_among xs q)
  where
    by : (b : Bool) → is_same x.name q ≡ b → (b || has_name xs q) ≡ true → (has_name xs q ≡ true → Contains (map (λ n. n.name) xs) q) → Contains (x.name ∷ map (λ n. n.name) xs) q
    by true s h more = subst (λ (n : List ℕ). Contains (x.name ∷ map (λ m. m.name) xs) n) (sym (is_it x.name q s)) (0, omega arith, refl)
    by false s h more = Contains-append_right (x.name ∷ []) (map (λ n. n.name) xs) q (more h)

module _ (a b : Sources) where
  types_agree : (instances : List InstanceTree) → ((name : List ℕ) → Contains (types_in instances) name → get a name ≡ get b name) → (name : List ℕ) → mentioned_type a instances name ≡ mentioned_type b instances name
  types_agree instances agree name = by (has_name (map (λ i. i.type_name) instances) name) refl
    where
      by : (h : Bool) → has_name (map (λ i. i.type_name) instances) name ≡ h → cond h (tree_at a name) None ≡ cond h (tree_at b name) None
      by true e = ap (option_and_then tree_of) (agree name (subst (λ (l : List (List ℕ)). Contains l name) (map-map (λ (n : NameUse). n.name) (λ (i : InstanceTree). i.type_name) instances) (named_among (map (λ i. i.type_name) instances) name e)))
      by false e = refl

  -- what names stand for in a type
  pub scope_local : (d : TypeTree) → ((name : List ℕ) → Contains (types_in d.network.instances) name → get a name ≡ get b name) → scope_of_type a d ≡ scope_of_type b d
  scope_local d agree = λ k. record { own = meanings_in_type d; type_ports = λ role name. usable role (types_agree d.network.instances agree name k) }

  -- what names stand for in an application
  pub network_scope_local : (network : NetworkTree) → ((name : List ℕ) → Contains (types_in network.instances) name → get a name ≡ get b name) → scope_of_network a network ≡ scope_of_network b network
  network_scope_local network agree = λ k. record { own = meanings_in_network network; type_ports = λ role name. usable role (types_agree network.instances agree name k) }
