-- What is kept after one more call.
use Rattle.std.proofs.Common.{◌≡◌, ℕ, ◌≤◌, ◌+◌, sym, subst, arith, length-append}
use Rattle.fb_entries.specs.{Keyed.{Keyed}, Library.Texts.{Texts}, Index.Indexed.{Indexed}, Indexed.{IsIndexOf}}
use Rattle.fb_history.specs.{Machine.{Call, Reply, after, reply}, BenchView.{BenchView, IsOrigin, last_number, state_of, logged, IsReplay}}
use Rattle.fb_bench.specs.Consistent.{Agrees, IsConsistent}
use Rattle.fb_history.proofs.Steps.{state_recorded, replayed_recorded}

-- what is kept after one more recorded call
pub kept_recorded : (units : Texts) (commits : ℕ) (entries : Keyed) (index : Indexed) (bench : BenchView) (caller : ℕ) (call : Call) (answer : Reply) → IsOrigin bench.origin → answer ≡ reply (state_of bench) call → Agrees units commits entries (after (state_of bench) call) → IsReplay bench → IsIndexOf units index → commits ≤ last_number bench + 1 → IsConsistent units commits entries index (logged bench caller call answer)
kept_recorded units commits entries index bench caller call answer begins same agrees so_far indexed few =
    subst (λ a. IsConsistent units commits entries index (logged bench caller call a)) (sym same)
    (record {
      begins = begins;
      agrees = subst (λ s. Agrees units commits entries s) (sym (state_recorded bench caller call)) agrees;
      replayed = replayed_recorded bench caller call so_far;
      indexed = indexed;
      few = simp length-append (omega arith);
    })

-- the same, where the bench is known by an equation
pub kept_pushed : (units : Texts) (commits : ℕ) (entries : Keyed) (index : Indexed) (bench next_story : BenchView) (caller : ℕ) (call : Call) (answer : Reply) → IsOrigin bench.origin → next_story ≡ logged bench caller call answer → answer ≡ reply (state_of bench) call → Agrees units commits entries (after (state_of bench) call) → IsReplay bench → IsIndexOf units index → commits ≤ last_number bench + 1 → IsConsistent units commits entries index next_story
kept_pushed units commits entries index bench next_story caller call answer begins is same agrees so_far indexed few =
    subst (λ st. IsConsistent units commits entries index st) (sym is) (kept_recorded units commits entries index bench caller call answer begins same agrees so_far indexed few)
