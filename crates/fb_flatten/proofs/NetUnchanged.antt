-- Texts that say the same, and have no faults, leave the net of what rests on them as it was.
use Rattle.std.proofs.{Common.{ℕ, ◌≡◌, true, List, [], inl, inr, None, ◌∙◌, ap}, lemmas.Bool.{false≢true}}
use Rattle.std.specs.{FinMap.{get}, Option.{option_and_then}}
use Rattle.fb_types.specs.{Library.View.{Sources, tree_at, tree_of}, Library.Rests.{Rests}, Hints.{is_whole_net}, Iface.Fault.{faults_in_order}}
use Rattle.fb_types.proofs.Text.Members.{contains_nothing}
use Rattle.fb_faults.specs.Faults.{all_reported, faults_of, text_faults}
use Rattle.fb_flatten.specs.{Blocking.{IsBlocking}, Unchanged.{LeavesNet, NetIsUnchanged}}
use Rattle.fb_flatten.specs.{Net.{PlainNet, blocked, recursive, too_large, flat_net, IsNet, IsSound, IsWhole}}
use Rattle.fb_flatten.proofs.ComputedNets.{net_at_is, same_kind}
use Rattle.fb_flatten.proofs.SaidFar.{SaysSameFar, far_back, large_there, part_back, recursive_those_there, unit_flat_there, within_there}

-- nothing has no faults
pub no_faults_of_nothing : (sources : Sources) (unit : List ℕ) → get sources unit ≡ None → faults_of sources unit ≡ []
no_faults_of_nothing sources unit e = ap (λ o. faults_in_order (all_reported sources unit (text_faults o) (option_and_then tree_of o))) e

module _ (a b : Sources) (unit : List ℕ) (leaves : LeavesNet a b unit) where
  own : tree_at a unit ≡ tree_at b unit
  own = ap (option_and_then tree_of) leaves.own

  says : SaysSameFar a b unit
  says v r = (leaves.still v r).says

  not_blocking : IsWhole a unit → (v : List ℕ) → Rests a unit v → IsBlocking b unit v → ⊥
  not_blocking whole v r (inl faulty) = faulty (leaves.still v r).faultless
  not_blocking whole v r (inr p) = contains_nothing v ((whole.members v).1 (r, inr ((leaves.still v r).absent p.0, part_back a b unit says v p.1)))

  whole_there : IsWhole a unit → IsWhole b unit
  whole_there whole =
      record {
        sorted = whole.sorted;
        members = λ v. (λ c. absurd (contains_nothing v c), λ p. absurd (not_blocking whole v (far_back a b unit says v p.0) p.1));
      }

  sound_there : IsSound a unit → IsSound b unit
  sound_there s = record { present = λ e. s.present (leaves.own ∙ e); whole = whole_there s.whole; finite = recursive_those_there a b unit says [] s.finite }

  there : (net : PlainNet) → is_whole_net net ≡ true → IsNet a unit net → IsNet b unit net
  there (blocked names) w p = absurd (false≢true w)
  there (recursive names) w p = absurd (false≢true w)
  there too_large w p = (sound_there p.0, large_there a b unit says own p.1)
  there (flat_net flat) w p = (sound_there p.0, within_there a b unit says own p.1, unit_flat_there a b unit says flat p.2)

pub net_left : NetIsUnchanged
net_left a b unit net leaves w at =
    let p = (net_at_is a unit net).0 at in
    (net_at_is b unit net).1 (same_kind a b unit leaves.own p.0, there a b unit leaves net w p.1)
