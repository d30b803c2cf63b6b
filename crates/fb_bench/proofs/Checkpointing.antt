-- What is kept after a checkpoint.
use Rattle.std.proofs.Common.{◌≡◌, ℕ, List, filter, refl, sym, subst, arith}
use Rattle.fb_entries.specs.{Keyed.{Keyed}, Library.Texts.{Texts}, Jobs.declared.keys.key.Key.{Key}, Index.Indexed.{Indexed}}
use Rattle.fb_history.specs.{Checkpoints.{checkpointed, restarted}, Limits.{Bounds}, Machine.{State, keys_of}, BenchView.{BenchView, replies, state_of}}
use Rattle.fb_history.proofs.Restarts.{goes_on, unseen}
use Rattle.fb_bench.specs.Consistent.{Agrees, IsConsistent}

pub restarted_is : (limits : Bounds) (bench : BenchView) (units : Texts) (commits : ℕ) (pending out : List Key) → units ≡ (state_of bench).units → commits ≡ (state_of bench).commits
    → pending ≡ filter (state_of bench).pending (keys_of (state_of bench).units) → out ≡ filter (state_of bench).out (keys_of (state_of bench).units)
    → restarted limits units commits pending out bench ≡ checkpointed limits bench
restarted_is limits bench units commits pending out units_are commits_are pending_are out_are =
    λ i. restarted limits (units_are i) (commits_are i) (pending_are i) (out_are i) bench

pub kept_checkpointed : (units : Texts) (commits : ℕ) (entries : Keyed) (index : Indexed) (limits : Bounds) (bench : BenchView) → IsConsistent units commits entries index bench → IsConsistent units commits entries index (checkpointed limits bench)
unfolding replies
kept_checkpointed units commits entries index limits bench kept =
    let s : State = state_of bench in
    let agrees = kept.agrees in
    let same : Agrees units commits entries (record s { most_units = limits.units }) =
    record { units_are = agrees.units_are; commits_are = agrees.commits_are; each = agrees.each; ready_are = agrees.ready_are } in
    record {
      begins = goes_on limits bench kept.begins;
      agrees = subst (λ t. Agrees units commits entries t) (sym (unseen limits bench kept.begins)) same;
      replayed = refl;
      indexed = kept.indexed;
      few = omega (arith, kept.few);
    }
