-- That a key is due, by places.
use Rattle.fb_laws.proofs.Common.{◌≡◌, ◌↔◌, ℕ, zero, suc, ◌<◌, Bool, true, false, true≢false, ◌||◌, ◌&&◌, not, ◌⊎◌, inl, inr, List, [], ◌∷◌, Some, refl, sym, ap, ◌∙◌, arith, or_left, or_right, and_from, and_parts, not-true, none-some, same_Some, take, slice_get, false_from_ne_true, by_bool, ◌≤◌}
use Rattle.fb_jobs.specs.declared.keys.key.Key.{Key}
use Rattle.fb_history.specs.{Limits.{Bounds}, Machine.{State, Call, after}, BenchView.{BenchView, IsOrigin, replay}, Due.{marks, settles, settled, due}, Checkpoints.{checkpointed}}
use Rattle.fb_laws.specs.DueByPlaces.{IsMarkedAt, IsSettledAt, IsMarkedLast, IsDueByPlaces, DueGoesOn}
use Rattle.fb_history.proofs.{Dues.{pending_is_due}, Restarts.{goes_on, unseen}}

-- the cases in which later places pass a test, after the first call and with it
module _ (test : State → Call → Key → Bool) (s : State) (c : Call) (cs : List Call) (k : Key) where
  abbrev IsAt : State → List Call → ℕ → Type 0
  IsAt s cs p = (c : Call) × (slice_get cs p ≡ Some c) × (test (replay s (take p cs)) c k ≡ true)

  -- if the first call doesn't pass, and none after it does, none does
  nowhere : test s c k ≡ false → ((p : ℕ) → IsAt (after s c) cs p → ⊥) → (p : ℕ) → IsAt s (c ∷ cs) p → ⊥
  unfolding replay
  nowhere fails none zero (d, at, is) = true≢false (sym is ∙ ap (λ x. test s x k) (sym (same_Some c d at)) ∙ fails)
  nowhere fails none (suc p) at = none p at

  none_later : (p : ℕ) → ((later : ℕ) → p ≤ later → IsAt (after s c) cs later → ⊥) → (later : ℕ) → p < later → IsAt s (c ∷ cs) later → ⊥
  unfolding replay
  none_later p none zero beyond at = absurd (omega (arith, beyond))
  none_later p none (suc later) beyond at = none later (omega (arith, beyond)) at

-- a key that is pending where the calls begin, if it is there, and that no call marks or settles
record IsLeft (pending : Bool) (s : State) (cs : List Call) (k : Key) : Type 0 where
  is_pending : pending ≡ true
  unmarked : (p : ℕ) → IsMarkedAt s cs k p → ⊥
  unsettled : (p : ℕ) → IsSettledAt s cs k p → ⊥

abbrev Waits : Bool → State → List Call → Key → Type 0
Waits pending s cs k = IsMarkedLast s cs k ⊎ IsLeft pending s cs k

module _ (pending : Bool) (s : State) (c : Call) (cs : List Call) (k : Key) where
  -- whether it is pending after the first call
  abbrev still : Bool
  still = marks s c k || (pending && not (settles s c k))

  behind : Waits pending s (c ∷ cs) k → Waits still (after s c) cs k
  unfolding replay
  behind (inl it) = from it.place it.marked it.last it.unsettled
    where
      from : (p : ℕ) → IsMarkedAt s (c ∷ cs) k p → ((later : ℕ) → p < later → IsMarkedAt s (c ∷ cs) k later → ⊥) → ((later : ℕ) → p < later → IsSettledAt s (c ∷ cs) k later → ⊥) → Waits still (after s c) cs k
      from zero (d, at, is) last none = inr (record { is_pending = or_left _ _ (ap (λ x. marks s x k) (same_Some c d at) ∙ is); unmarked = λ p. last (suc p) (omega arith); unsettled = λ p. none (suc p) (omega arith) })
      from (suc p) at last none = inl (record { place = p; marked = at; last = λ q more. last (suc q) (omega (arith, more)); unsettled = λ q more. none (suc q) (omega (arith, more)) })
  behind (inr left) =
      let clear = false_from_ne_true (settles s c k) (λ e. left.unsettled 0 (c, refl, e)) in
      inr (record { is_pending = or_right (marks s c k) _ (and_from pending _ left.is_pending (ap not clear)); unmarked = λ p. left.unmarked (suc p); unsettled = λ p. left.unsettled (suc p) })

  before : Waits still (after s c) cs k → Waits pending s (c ∷ cs) k
  unfolding replay
  before (inl it) = inl (record { place = suc it.place; marked = it.marked; last = none_later marks s c cs k (suc it.place) it.last; unsettled = none_later settles s c cs k (suc it.place) it.unsettled })
  before (inr left) =
      by_bool (marks s c k)
      (λ is. inl (record { place = 0; marked = (c, refl, is); last = none_later marks s c cs k 0 (λ p from. left.unmarked p); unsettled = none_later settles s c cs k 0 (λ p from. left.unsettled p) }))
      (λ is. let parts = and_parts pending (not (settles s c k)) (ap (λ (b : Bool). b || (pending && not (settles s c k))) (sym is) ∙ left.is_pending) in
      inr (record { is_pending = parts.0; unmarked = nowhere marks s c cs k is left.unmarked; unsettled = nowhere settles s c cs k (not-true (settles s c k) parts.1) left.unsettled }))

turned : (pending marked settled_here settled_later due_later : Bool) → (((marked || (pending && not settled_here)) && not settled_later) || due_later) ≡ ((pending && not (settled_here || settled_later)) || ((marked && not settled_later) || due_later))
turned pending marked settled_here settled_later due_later = grind arith

by_places : (cs : List Call) (pending : Bool) (s : State) (k : Key) → (((pending && not (settled s cs k)) || due s cs k) ≡ true) ↔ Waits pending s cs k
unfolding settled due
by_places [] pending s k = grind (arith, none-some)
by_places (c ∷ cs) pending s k =
    let more = by_places cs (still pending s c cs k) (after s c) k in
    let same = turned pending (marks s c k) (settles s c k) (settled (after s c) cs k) (due (after s c) cs k) in
    (λ e. before pending s c cs k (more.0 (same ∙ e)), λ w. sym same ∙ more.1 (behind pending s c cs k w))

pub due_by_places : (s : State) (cs : List Call) (k : Key) → IsDueByPlaces s cs k
due_by_places s cs k = grind (arith, by_places)

pub due_goes_on : (limits : Bounds) (bench : BenchView) → IsOrigin bench.origin → DueGoesOn limits bench
due_goes_on limits bench begins key =
    sym (pending_is_due (checkpointed limits bench) key (goes_on limits bench begins))
    ∙ ap (λ s. s.pending key) (unseen limits bench begins)
    ∙ pending_is_due bench key begins
