-- Instances by their names, and those of applications.
use Rattle.std.proofs.Common.{ℕ, ◌≡◌, Bool, true, false, cond, List, Option, Some, None, refl, sym, ◌∙◌, ap, subst}
use Rattle.std.specs.{Prelude.{find, option_map}, Option.{option_or}, Str.{bytes_eq}, BTreeMap.{is_at}}
use Rattle.fb_tree.specs.{Text.Order.{name_cmp}, Tree.{ApplicationTree, InstanceTree, application_tree}, declared.system.Application.{Application}}
use Rattle.fb_network.proofs.Equals.{same_bytes}
use Rattle.fb_placing.specs.Resolved.{PlainResolved, instance_called, resolved_among, resolved_in}

-- the instances of an application by their names
abbrev pub called_in : Application → List ℕ → Option InstanceTree
called_in a = let tree : ApplicationTree = application_tree a in instance_called tree.network.instances

-- one more item under another form
pub form_added : {X Y : Type 0} (form : X → Y) (o : Option X) (b : Bool) (x : X) → option_map form (option_or o (cond b (Some x) None)) ≡ option_or (option_map form o) (cond b (Some (form x)) None)
form_added form None true x = refl
form_added form None false x = refl
form_added form (Some y) b x = refl

-- an instance stands in the unit
pub among_called : (unit : List ℕ) (instances : List InstanceTree) (name : List ℕ) → resolved_among unit instances name ≡ option_map (resolved_in unit) (instance_called instances name)
among_called unit instances name = by_found (find (λ (i : InstanceTree). bytes_eq i.name.name name) instances)
  where
    by_found : (o : Option InstanceTree) → option_map (λ (i : InstanceTree). let s : PlainResolved = record { unit = unit; instance = i } in s) o ≡ option_map (resolved_in unit) (option_map (λ (i : InstanceTree). i) o)
    by_found None = refl
    by_found (Some i) = refl

-- what stands under a new name is as what stands under the others
pub one_added : {T : Type 0} (P : List ℕ → T → Type 0) (name : List ℕ) (x : T) (old new : List ℕ → Option T) → ((n : List ℕ) (t : T) → old n ≡ Some t → P n t) → P name x → ((q : List ℕ) → new q ≡ cond (is_at (name_cmp name) q) (Some x) (old q)) → (n : List ℕ) (t : T) → new n ≡ Some t → P n t
one_added {T = T} P name x old new right here updates n t e = by_test (is_at (name_cmp name) n) refl
  where
    by_test : (b : Bool) → is_at (name_cmp name) n ≡ b → P n t
    by_test true s =
        let given : Some x ≡ Some t = sym (updates n ∙ ap (λ (b : Bool). cond b (Some x) (old n)) s) ∙ e in
        let same : x ≡ t = cc in
        subst (λ (y : T). P n y) same (subst (λ (m : List ℕ). P m x) (same_bytes name n s) here)
    by_test false s = right n t (sym (updates n ∙ ap (λ (b : Bool). cond b (Some x) (old n)) s) ∙ e)
