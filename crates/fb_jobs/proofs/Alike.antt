-- Tests of equality that are right, of single values and of lists.
use Rattle.std.proofs.{Common.{◌≡◌, ◌↔◌, ℕ, ◌≤◌, Bool, List, IsTrue, map, length, sym, ap, ◌∙◌}, lemmas.List.{map-id}}
use Rattle.std.specs.{Ordering.{eq_by_cmp}, BTreeMap.{is_at}}
use Rattle.fb_text.specs.Order.{name_cmp}
use Rattle.fb_deploy.proofs.{Library.Names.{name_total, exact_name}, Iface.FaultLemmas.{fault_cmp-exact}}
use Rattle.fb_deploy.specs.{Iface.declared.fault.Fault.{Fault}, Iface.Fault.{fault_cmp, fault_cmp_total}, Placing.PlainPlan.{PlainPlan}}
use Rattle.fb_deploy.specs.{Placing.PlainResource.{PlainResource}, Deploy.{planned}}
use Rattle.fb_jobs.specs.{declared.keys.key.Key.{Key}, KeyOrder.{key_cmp_total, same_key}}
use Rattle.fb_jobs.proofs.Order.{exact_key}
use Rattle.fb_network.proofs.Alike.{SameLeftBy, same_to_end_by, told_by}
use Rattle.fb_network.specs.declared.flat.Link.{Link}

pub one_name : (a b : List ℕ) → IsTrue (is_at (name_cmp a) b) ↔ (a ≡ b)
one_name = told_by name_total exact_name

pub one_key : (a b : Key) → IsTrue (same_key a b) ↔ (a ≡ b)
one_key = told_by key_cmp_total exact_key

pub one_fault : (a b : Fault) → IsTrue (eq_by_cmp fault_cmp a b) ↔ (a ≡ b)
one_fault = told_by fault_cmp_total fault_cmp-exact

-- ---- lists, item by item

module _ {X Y : Type 0} (f : X → Y) where
  -- what is left of both lists is the same where the lists are
  abbrev pub SameLeft : List X → List X → ℕ → Type 0
  SameLeft = SameLeftBy f f

  pub same_to_end : (xs ys : List X) (k : ℕ) → length xs ≡ length ys → length xs ≤ k → SameLeft xs ys k → map f xs ≡ map f ys
  same_to_end = same_to_end_by f f

-- items that count as they are
pub same_whole : {X : Type 0} (xs ys : List X) (k : ℕ) → length xs ≡ length ys → length xs ≤ k → SameLeft (λ (x : X). x) xs ys k → xs ≡ ys
same_whole xs ys k long past left = sym (map-id xs) ∙ (same_to_end (λ x. x) xs ys k long past left ∙ map-id ys)

-- ---- plans

same_cuts : (cuts cuts' : List Link) (resources resources' : List PlainResource) → planned cuts resources ≡ planned cuts' resources' → cuts ≡ cuts'
same_cuts cuts cuts' resources resources' e = cc

same_resources : (cuts cuts' : List Link) (resources resources' : List PlainResource) → planned cuts resources ≡ planned cuts' resources' → resources ≡ resources'
same_resources cuts cuts' resources resources' e = cc

-- what is told of two plans
pub told_of_plans : (told : Bool) (a b : PlainPlan) → IsTrue told ↔ (a ≡ b) → IsTrue told ↔ (planned a.cuts a.resources ≡ planned b.cuts b.resources)
told_of_plans told a b same = (
  (λ t. ap (λ (p : PlainPlan). planned p.cuts p.resources) (same.0 t)),
  (λ e. same.1 (λ i. record { cuts = same_cuts a.cuts b.cuts a.resources b.resources e i; resources = same_resources a.cuts b.cuts a.resources b.resources e i })),
)
