-- Usable types, by what the check knows of them.
use Rattle.fb_laws.proofs.Common.{◌≡◌, ℕ, cond, List, [], ◌∷◌, map, Some, None, refl, sym, ap, ◌∙◌, Contains, InstanceTree, NetworkTree, TypeTree, Role, Sources, tree_at, first_ones, stands_for, Meanings, instances_in, meanings_in_type, instance_ports, scope_of_type, type_ports_of, usable, DeclaredInstance, contains_here, contains_later, contains_map, named, IsUsable, as_plug, as_socket, as_block, as_subapplication, arith}
use Rattle.fb_netcheck.proofs.Locality.{Each, instance_stands}

module _ (sources : Sources) (name : List ℕ) where
  pub told_type : (role : Role) (ports : Meanings) → IsUsable sources name role ports → usable role (tree_at sources name) ≡ Some ports
  told_type role ports is = grind arith

  pub known_type : (role : Role) (ports : Meanings) → usable role (tree_at sources name) ≡ Some ports → IsUsable sources name role ports
  known_type role ports e = grind (arith, as_plug, as_socket, as_block, as_subapplication)

  pub no_type : (role : Role) → usable role (tree_at sources name) ≡ None → (ports : Meanings) → ¬ IsUsable sources name role ports
  no_type role e ports is = let both : Some ports ≡ None = sym (told_type role ports is) ∙ e in let fails : ⊥ = cc in fails

  pub type_missing : (role : Role) → ((ports : Meanings) → ¬ IsUsable sources name role ports) → usable role (tree_at sources name) ≡ None
  type_missing role none =
      (elim (usable role (tree_at sources name)) as (λ o. usable role (tree_at sources name) ≡ o → o ≡ None) [ None ↦ λ e. refl | Some ports ↦ λ e. absurd (none ports (known_type role ports e)) ]) refl

-- the types of the instances of a network are known to its check

each_from : {A : Type 0} (P : A → Type 0) (xs : List A) → ((x : A) → Contains xs x → P x) → Each P xs
each_from P [] h = tt
each_from P (x ∷ xs) h = (h x (contains_here x xs), each_from P xs (λ y c. h y (contains_later x xs y c)))

pub listed_type : (sources : Sources) (n : NetworkTree) (x : InstanceTree) → Contains n.instances x → (role : Role) → type_ports_of sources n role x.type_name.name ≡ usable role (tree_at sources x.type_name.name)
listed_type sources n x c role =
    let mentions = map (λ (i : InstanceTree). i.type_name) n.instances in
    ap (λ b. usable role (cond b (tree_at sources x.type_name.name) None)) (named mentions x.type_name.name x.type_name (contains_map (λ (i : InstanceTree). i.type_name) n.instances x c) refl)

pub declared_type : (sources : Sources) (n : NetworkTree) (instances : List (List ℕ × DeclaredInstance)) → instances ≡ first_ones (instances_in n) → (name : List ℕ) (i : DeclaredInstance) → stands_for instances name ≡ Some i → type_ports_of sources n i.role i.type_name.name ≡ usable i.role (tree_at sources i.type_name.name)
declared_type sources n instances own name i e =
    instance_stands (λ (d : DeclaredInstance). type_ports_of sources n d.role d.type_name.name ≡ usable d.role (tree_at sources d.type_name.name)) n (each_from _ n.instances (λ x c. listed_type sources n x c x.role)) name i (ap (λ l. stands_for l name) (sym own) ∙ e)

-- the same of a type's own plugs, sockets and instances
pub own_type : (sources : Sources) (d : TypeTree) (name : List ℕ) (i : DeclaredInstance) → stands_for (meanings_in_type d).instances name ≡ Some i → instance_ports (scope_of_type sources d) i ≡ usable i.role (tree_at sources i.type_name.name)
own_type sources d name i e = declared_type sources d.network (meanings_in_type d).instances refl name i e
