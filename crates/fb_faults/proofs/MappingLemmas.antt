-- The resources of one more device.
use Rattle.std.proofs.Common.{◌≡◌, ℕ, Bool, true, false, cond, ◌&&◌, ◌||◌, List, [], ◌∷◌, ◌++◌, None, Some, not, refl, sym, ap, ◌∙◌, nat_eq, is_some}
use Rattle.std.proofs.{lemmas.List.Folds.{list_any-append}, Math.Bool.{or-false}}
use Rattle.std.specs.{BTreeSet.{BTreeSet, contains, Updates}, Cmp.Lexicographic.{pointwise}, Option.{option_map_or}, Cmp.{tied_then}}
use Rattle.fb_tree.proofs.{Text.Tests.{not_true, not_false}, Text.OrderLemmas.{same_name}}
use Rattle.fb_tree.specs.{Text.Order.{name_cmp}, Text.declared.name.NameUse.{NameUse}}
use Rattle.fb_netcheck.specs.Iface.Names.{has_name, is_same, stands_for}
use Rattle.fb_netcheck.proofs.{Iface.RepeatLemmas.{true_or}, Iface.TableLemmas.{is_it, known-new, known-old, none}}
use Rattle.fb_faults.specs.Pairs.{pair_cmp}

one_more : (old device names name : Bool) → ((old || (device && names)) || (device && name)) ≡ (old || (device && (names || name)))
one_more true device names name = refl
one_more false true names name = refl
one_more false false names name = refl

pub none_added : (old device : Bool) → old ≡ (old || (device && false))
none_added true device = refl
none_added false true = refl
none_added false false = refl

-- the resources of a device with one more
pub added : (device : List ℕ) (names : List NameUse) (x : NameUse) (first old new : BTreeSet (List ℕ × List ℕ)) → ((name resource : List ℕ) → contains pair_cmp old (name, resource) ≡ (contains pair_cmp first (name, resource) || (is_same device name && has_name names resource))) → Updates pair_cmp old new (device, x.name) true → (name resource : List ℕ) → contains pair_cmp new (name, resource) ≡ (contains pair_cmp first (name, resource) || (is_same device name && has_name (names ++ x ∷ []) resource))
added device names x first old new known updates name resource =
    updates.0 (name, resource)
    ∙ (λ i. cond (sym (tied_then (name_cmp device name) (name_cmp x.name resource)) i) true (known name resource i))
    ∙ true_or (is_same device name && is_same x.name resource) (contains pair_cmp first (name, resource) || (is_same device name && has_name names resource))
    ∙ one_more (contains pair_cmp first (name, resource)) (is_same device name) (has_name names resource) (is_same x.name resource)
    ∙ ap (λ b. contains pair_cmp first (name, resource) || (is_same device name && b)) (sym (list_any-append (λ (n : NameUse). is_same n.name resource) names (x ∷ []) ∙ ap (λ b. has_name names resource || b) (or-false (is_same x.name resource))))

-- whether the names that a device stands for have the resource
abbrev pub among : List (List ℕ × List NameUse) → List ℕ → List ℕ → Bool
among devices name resource = option_map_or (λ names. has_name names resource) (stands_for devices name) false

module _ (devices : List (List ℕ × List NameUse)) (x : List ℕ × List NameUse) where
  -- a device that is new
  stands_new : is_some (stands_for devices x.0) ≡ false → (q : List ℕ) → cond (pointwise nat_eq x.0 q) (Some x.1) (stands_for devices q) ≡ stands_for (devices ++ x ∷ []) q
  stands_new absent q = known-new devices x (stands_for devices) (λ q. cond (pointwise nat_eq x.0 q) (Some x.1) (stands_for devices q)) (λ q. refl) absent (λ q. refl) q

  pub among-new : is_some (stands_for devices x.0) ≡ false → (name resource : List ℕ) → (among devices name resource || (is_same x.0 name && has_name x.1 resource)) ≡ among (devices ++ x ∷ []) name resource
  among-new absent name resource =
      (λ i. among devices name resource || (sym (same_name x.0 name) i && has_name x.1 resource))
      ∙ by (pointwise nat_eq x.0 name) (λ e. ap (stands_for devices) (is_it x.0 name (sym (same_name x.0 name) ∙ e)) ∙ none (stands_for devices x.0) absent)
      ∙ ap (λ o. option_map_or (λ names. has_name names resource) o false) (stands_new absent name)
    where
      by : (b : Bool) → (b ≡ true → stands_for devices name ≡ None) → (among devices name resource || (b && has_name x.1 resource)) ≡ option_map_or (λ names. has_name names resource) (cond b (Some x.1) (stands_for devices name)) false
      by true e = ap (λ o. option_map_or (λ names. has_name names resource) o false || has_name x.1 resource) (e refl)
      by false e = or-false (among devices name resource)

  seen-new : is_some (stands_for devices x.0) ≡ false → (q : List ℕ) → cond (is_same x.0 q) true (is_some (stands_for devices q)) ≡ is_some (stands_for (devices ++ x ∷ []) q)
  seen-new absent q =
      (λ i. cond (sym (same_name x.0 q) i) true (is_some (stands_for devices q))) ∙ by (pointwise nat_eq x.0 q) ∙ ap is_some (stands_new absent q)
    where
      by : (b : Bool) → cond b true (is_some (stands_for devices q)) ≡ is_some (cond b (Some x.1) (stands_for devices q))
      by true = refl
      by false = refl

  -- a device that is declared again
  pub among-old : is_some (stands_for devices x.0) ≡ true → (name resource : List ℕ) → among devices name resource ≡ among (devices ++ x ∷ []) name resource
  among-old there name resource = ap (λ o. option_map_or (λ names. has_name names resource) o false) (known-old devices x (stands_for devices) (λ q. refl) there name)

  seen-old : is_some (stands_for devices x.0) ≡ true → (q : List ℕ) → cond (is_same x.0 q) true (is_some (stands_for devices q)) ≡ is_some (stands_for (devices ++ x ∷ []) q)
  seen-old there q =
      by (is_same x.0 q) refl ∙ ap is_some (known-old devices x (stands_for devices) (λ q. refl) there q)
    where
      by : (b : Bool) → is_same x.0 q ≡ b → cond b true (is_some (stands_for devices q)) ≡ is_some (stands_for devices q)
      by true e = sym there ∙ ap (λ n. is_some (stands_for devices n)) (sym (is_it x.0 q e))
      by false e = refl

  -- the names of devices with one more
  pub seen-next : (q : List ℕ) → cond (is_same x.0 q) true (is_some (stands_for devices q)) ≡ is_some (stands_for (devices ++ x ∷ []) q)
  seen-next q = by (is_some (stands_for devices x.0)) refl
    where
      by : (b : Bool) → is_some (stands_for devices x.0) ≡ b → cond (is_same x.0 q) true (is_some (stands_for devices q)) ≡ is_some (stands_for (devices ++ x ∷ []) q)
      by true e = seen-old e q
      by false e = seen-new e q
