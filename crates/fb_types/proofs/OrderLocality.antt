-- Recursion depends on the texts that a unit rests on alone.
use Rattle.std.proofs.Common.{ℕ, List, sym, subst}
use Rattle.std.specs.List.{Contains}
use Rattle.fb_iface.specs.{Library.View.{Sources, parts_at}, Library.Local.{AgreeFar}, Library.Rests.{Rests, itself, through}}
use Rattle.fb_iface.proofs.Library.Locality.{far_local, part_mention, rests_both, same_parts}
use Rattle.fb_types.specs.{LocalOrder.{RecursionIsLocal}, Reaches.{Reaches, directly, onward}}

there : (a b : Sources) {u v : List ℕ} → AgreeFar u a b → Reaches a u v → Reaches b u v
there a b {u} {v} agree (directly m) = directly (subst (λ (l : List (List ℕ)). Contains l v) (same_parts a b u (agree u itself)) m)
there a b {u} agree (onward {w = w} m r) =
    onward (subst (λ (l : List (List ℕ)). Contains l w) (same_parts a b u (agree u itself)) m) (there a b (λ n h. agree n (through (part_mention a u w m) h)) r)

back : (a b : Sources) {u v : List ℕ} → AgreeFar u a b → Reaches b u v → Reaches a u v
back a b {u} {v} agree (directly m) = directly (subst (λ (l : List (List ℕ)). Contains l v) (sym (same_parts a b u (agree u itself))) m)
back a b {u} agree (onward {w = w} m r) =
    let known : Contains (parts_at a u) w = subst (λ (l : List (List ℕ)). Contains l w) (sym (same_parts a b u (agree u itself))) m in
    onward known (back a b (λ n h. agree n (through (part_mention a u w known) h)) r)

pub recursion_local : RecursionIsLocal
recursion_local a b unit agree name = (
  λ h. ((far_local a b unit agree name).0 h.0, there a b (λ n r. agree n (rests_both h.0 r)) h.1),
  λ h.
      let rests : Rests a unit name = (far_local a b unit agree name).1 h.0 in
      (rests, back a b (λ n r. agree n (rests_both rests r)) h.1),
)
