-- The net of a unit depends on the texts alone that the unit rests on.
use Rattle.std.proofs.Common.{ℕ, ◌≡◌, List, [], inl, inr, sym, ◌∙◌, ap, option_map}
use Rattle.std.specs.{Prelude.{Option}, Option.{option_and_then}}
use Rattle.fb_types.specs.{Library.View.{Sources, parts_in, tree_at, tree_of, values_in}, Library.Rests.{Rests, itself}, Library.Local.{AgreeFar}}
use Rattle.fb_types.specs.{Tree.Mentions.{unit_kind_of}, Applications.{applications_of}, Local.{HasSameInterface}, Networks.{network_of}, Tree.Tree.{DeclTree}}
use Rattle.fb_types.proofs.Library.Locality.{near_far, rests_both}
use Rattle.fb_faults.specs.Faults.{faults_of}
use Rattle.fb_faults.proofs.Locality.{faults_local}
use Rattle.fb_flatten.specs.{Blocking.{AreThose, IsBlocking}, Laws.{NetIsLocal}, Net.{PlainNet, blocked, recursive, too_large, flat_net, IsNet, IsSound}}
use Rattle.fb_flatten.proofs.SaidFar.{SaysSameFar, far_back, far_there, large_there, part_back, part_there, recursive_those_there, unit_flat_there, within_there}

-- one tree says what it says
pub says_itself : (x y : Option DeclTree) → x ≡ y → HasSameInterface x y
says_itself x y e = record {
  parts = ap parts_in e;
  values = ap values_in e;
  said = record { network = ap (option_map network_of) e; applications = ap (option_map applications_of) e; kind = ap (option_map unit_kind_of) e };
}

module _ (a b : Sources) (unit : List ℕ) (agree : AgreeFar unit a b) where
  own : tree_at a unit ≡ tree_at b unit
  own = ap (option_and_then tree_of) (agree unit itself)

  says : SaysSameFar a b unit
  says v r = says_itself (tree_at a v) (tree_at b v) (ap (option_and_then tree_of) (agree v r))

  faults_same : (v : List ℕ) → Rests a unit v → faults_of a v ≡ faults_of b v
  faults_same v r = faults_local a b v (λ n c. agree n (rests_both r (near_far a v n c)))

  blocking_there : (v : List ℕ) → Rests a unit v → IsBlocking a unit v → IsBlocking b unit v
  blocking_there v r (inl n) = inl (λ e. n (faults_same v r ∙ e))
  blocking_there v r (inr p) = inr (sym (agree v r) ∙ p.0, part_there a b unit says v p.1)

  blocking_back : (v : List ℕ) → Rests a unit v → IsBlocking b unit v → IsBlocking a unit v
  blocking_back v r (inl n) = inl (λ e. n (sym (faults_same v r) ∙ e))
  blocking_back v r (inr p) = inr (agree v r ∙ p.0, part_back a b unit says v p.1)

  blocking_those_there : (names : List (List ℕ)) → AreThose a unit (IsBlocking a unit) names → AreThose b unit (IsBlocking b unit) names
  blocking_those_there names t =
      record {
        sorted = t.sorted;
        members = λ v. (
          λ c. let m = (t.members v).0 c in (far_there a b unit says v m.0, blocking_there v m.0 m.1),
          λ r. let far = far_back a b unit says v r.0 in (t.members v).1 (far, blocking_back v far r.1),
        );
      }

  sound_there : IsSound a unit → IsSound b unit
  sound_there s = record { present = λ e. s.present (agree unit itself ∙ e); whole = blocking_those_there [] s.whole; finite = recursive_those_there a b unit says [] s.finite }

  there : (net : PlainNet) → IsNet a unit net → IsNet b unit net
  there (blocked names) p = (blocking_those_there names p.0, p.1)
  there (recursive names) p = (blocking_those_there [] p.0, recursive_those_there a b unit says names p.1, p.2)
  there too_large p = (sound_there p.0, large_there a b unit says own p.1)
  there (flat_net flat) p = (sound_there p.0, within_there a b unit says own p.1, unit_flat_there a b unit says flat p.2)

pub net_local : NetIsLocal
net_local a b unit agree net p = there a b unit agree net p
