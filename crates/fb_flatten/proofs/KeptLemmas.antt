-- What rests on what by parts in a part of the sources.
use Rattle.std.proofs.Common.{ℕ, ◌≡◌, Bool, true, cond, List, None}
use Rattle.std.specs.{Prelude.{Contains}, FinMap.{get}}
use Rattle.fb_types.proofs.{Text.Tests.{by_bool}, Text.Members.{contains_nothing}}
use Rattle.fb_types.specs.{Library.View.{Sources, parts_at}, Library.Rests.{PartRests, on_itself, through_part}, Reaches.{Reaches, directly, onward}}

module _ (sources kept : Sources) (keeps : List ℕ → Bool) (is : (n : List ℕ) → get kept n ≡ cond (keeps n) (get sources n) None) where
  pub part_kept : (n w : List ℕ) → keeps n ≡ true → Contains (parts_at sources n) w → Contains (parts_at kept n) w
  part_kept n w t m = rw (is n, t) m

  pub part_within : (n w : List ℕ) → Contains (parts_at kept n) w → Contains (parts_at sources n) w
  part_within n w m = by_bool (keeps n) (λ t. rw (is n, t) at m) (λ f. absurd (contains_nothing w (rw (is n, f) at m)))

  pub rests_within : {u v : List ℕ} → PartRests kept u v → PartRests sources u v
  rests_within on_itself = on_itself
  rests_within {u} (through_part {w = w} m r) = through_part (part_within u w m) (rests_within r)

  pub reaches_within : {u v : List ℕ} → Reaches kept u v → Reaches sources u v
  reaches_within {u} {v} (directly m) = directly (part_within u v m)
  reaches_within {u} (onward {w = w} m r) = onward (part_within u w m) (reaches_within r)
