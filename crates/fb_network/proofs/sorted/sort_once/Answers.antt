-- The sort only moves elements, and what `dedup` leaves of a sorted list is strictly sorted.
use Rattle.std.proofs.{lemmas.List.Filters.{dedup_is}, lemmas.List.Kept.{Contains-dedup, Contains-from_dedup, IsStrictlySortedBy-dedup}}
use Rattle.std.proofs.lemmas.List.Sorted.{Contains-permutation, IsPermutation-sym}
use Rattle.fb_network.proofs.sorted.sort_once.Goals as goal

pub returns-clause-sorted : goal.returns-clause-sorted
returns-clause-sorted g c =
    let is = dedup_is _ _ _ c.dedup.ensures.filtered in
    rw is (IsStrictlySortedBy-dedup g.met.T.Ord.total g.met.T.Ord.matches_eq _ c.in_ok-sort.ensures.sorted)

pub returns-clause-kept : goal.returns-clause-kept
returns-clause-kept g c =
    let is = dedup_is _ _ _ c.dedup.ensures.filtered in
    λ x h. rw is (Contains-dedup g.met.T.Eq.laws c.requires _ x (Contains-permutation _ _ x c.in_ok-sort.ensures.permutation h))

pub returns-clause-added : goal.returns-clause-added
returns-clause-added g c =
    let is = dedup_is _ _ _ c.dedup.ensures.filtered in
    λ x h. Contains-permutation _ _ x (IsPermutation-sym _ _ c.in_ok-sort.ensures.permutation) (Contains-from_dedup _ _ x (rw is at h))
