-- A history that begins anew where it has led to.
use Rattle.std.proofs.Common.{◌≡◌, ℕ, ◌-◌, Bool, true, false, ◌||◌, ◌&&◌, not, List, [], ◌∷◌, filter, map, Option, Some, None, refl, sym, ap, ◌∙◌, subst, arith, zero, suc}
use Rattle.std.proofs.lemmas.Bool.{and_parts, and_right}
use Rattle.std.specs.List.{list_any}
use Rattle.fb_jobs.specs.{Library.Texts.{Edit, all_edited, unit_of}, declared.keys.key.Key.{Key}, Keys.{has_key}, KeyOrder.{same_key}}
use Rattle.fb_jobs.proofs.{Members.{of_filtered}, Order.{keys_equal}}
use Rattle.fb_history.specs.declared.answers.Committed.{Committed}
use Rattle.fb_history.specs.declared.answers.Committed.TheVariants.{Done, NoChange, TooManyChanges, SameUnitTwice, StaleBase, NoSuchUnit, TooManyUnits}
use Rattle.fb_history.specs.Machine.{State, Call, ToCommit, ToTake, ToDeliver, ToGiveBack, ToAsk, commit_answer, after_commit, next, after_take, deliver_answer, after_deliver, give_back_answer, after_give_back, after, keys_of, reaches}
use Rattle.fb_history.specs.{Checkpoints.{checkpointed, IsUnseen, AreOne, NumbersGoOn}, Events.{last_event_of}}
use Rattle.fb_history.specs.{declared.answers.Delivered.{Delivered}, declared.answers.Delivered.TheVariants.{Accepted, NoSuchKey, NotPending, Stale}}
use Rattle.fb_history.specs.{declared.answers.GivenBack.{GivenBack}, declared.answers.GivenBack.TheVariants.{Returned, NothingOut}}
use Rattle.fb_history.specs.{Limits.{Bounds}, BenchView.{BenchView, IsOrigin, opened, replay, calls_of, state_of, last_number, pages_after, record_at}}
use Rattle.fb_history.proofs.{Least.{next_passes, of_keys}, Pages.{on_all}, Sorted.{rise_bench}}

-- ---- no key is pending or handed out but those of the texts

abbrev IsWithin : State → Type 0
IsWithin s = (key : Key) → has_key s.units key ≡ false → (s.pending key ≡ false) × (s.out key ≡ false)

within_commit : (answer : Committed) (edits : List Edit) (s : State) → IsWithin s → IsWithin (after_commit answer edits s)
within_commit (Done commit) edits s within =
    λ key none. (
      ap (λ b. b && ((s.pending key || not (has_key s.units key)) || reaches (map unit_of edits) (all_edited commit edits s.units) key)) none,
      ap (λ b. ((b && has_key s.units key) && s.out key) && not (reaches (map unit_of edits) (all_edited commit edits s.units) key)) none,
    )
within_commit NoChange edits s within = within
within_commit TooManyChanges edits s within = within
within_commit (SameUnitTwice unit) edits s within = within
within_commit (StaleBase unit current) edits s within = within
within_commit (NoSuchUnit unit) edits s within = within
within_commit TooManyUnits edits s within = within

not_it : (s : State) (k key : Key) (same : Bool) → IsWithin s → s.pending k ≡ true → has_key s.units key ≡ false → same_key k key ≡ same → same ≡ false
not_it s k key true within pends none at =
    let there : s.pending key ≡ true = subst (λ x. s.pending x ≡ true) (keys_equal k key at) pends in
    let not_there : s.pending key ≡ false = (within key none).0 in cc
not_it s k key false within pends none at = refl

within_take : (next_key : Option Key) (s : State) → next_key ≡ next s → IsWithin s → IsWithin (after_take next_key s)
within_take None s is within = within
within_take (Some k) s is within =
    let pends : s.pending k ≡ true = (and_parts (s.pending k) (not (s.out k)) (next_passes s k is)).0 in
    λ key none.
    let apart : same_key k key ≡ false = not_it s k key (same_key k key) within pends none refl in
    ((within key none).0, ap (λ b. b || s.out key) apart ∙ (within key none).1)

within_deliver : (answer : Delivered) (k : Key) (s : State) → IsWithin s → IsWithin (after_deliver answer k s)
within_deliver Accepted k s within = λ key none. (and_right _ _ (within key none).0, and_right _ _ (within key none).1)
within_deliver NoSuchKey k s within = within
within_deliver NotPending k s within = within
within_deliver (Stale name) k s within = within

within_give_back : (answer : GivenBack) (k : Key) (s : State) → IsWithin s → IsWithin (after_give_back answer k s)
within_give_back Returned k s within = λ key none. ((within key none).0, and_right _ _ (within key none).1)
within_give_back NothingOut k s within = within

within_after : (s : State) (call : Call) → IsWithin s → IsWithin (after s call)
unfolding after
within_after s (ToCommit edits) within = within_commit (commit_answer s edits) edits s within
within_after s ToTake within = within_take (next s) s refl within
within_after s (ToDeliver job) within = within_deliver (deliver_answer s job) job.key s within
within_after s (ToGiveBack key) within = within_give_back (give_back_answer s key) key s within
within_after s (ToAsk key) within = within

within_replay : (s : State) (calls : List Call) → IsWithin s → IsWithin (replay s calls)
unfolding replay
within_replay s [] within = within
within_replay s (call ∷ calls) within = within_replay (after s call) calls (within_after s call within)

within_bench : (bench : BenchView) → IsOrigin bench.origin → IsWithin (state_of bench)
within_bench bench begins = within_replay (opened bench.origin) (calls_of bench.log) (λ key none. (begins.waiting key none, begins.handed key none))

-- ---- the state is as it was

own : (has mark : Bool) → (has ≡ false → mark ≡ false) → (has && mark) ≡ mark
own true mark sound = refl
own false mark sound = sym (sound refl)

-- marks of keys of the texts, as a list and back
listed_again : (s : State) (marks : Key → Bool) → ((key : Key) → has_key s.units key ≡ false → marks key ≡ false) → (key : Key) → list_any (same_key key) (filter marks (keys_of s.units)) ≡ marks key
listed_again s marks sound key =
    of_filtered marks key (keys_of s.units) ∙ ap (λ b. b && marks key) (of_keys s.units key) ∙ own (has_key s.units key) (marks key) (sound key)

pub unseen : (limits : Bounds) (bench : BenchView) → IsOrigin bench.origin → IsUnseen limits bench
unfolding replay
unseen limits bench begins =
    let s : State = state_of bench in
    let within = within_bench bench begins in
    let pends = listed_again s s.pending (λ key none. (within key none).0) in
    let outs = listed_again s s.out (λ key none. (within key none).1) in
    λ i. record { most_units = limits.units; units = s.units; commits = s.commits; pending = λ key. pends key i; out = λ key. outs key i }

-- ---- it is where a history may begin

pub goes_on : (limits : Bounds) (bench : BenchView) → IsOrigin bench.origin → IsOrigin (checkpointed limits bench).origin
goes_on limits bench begins =
    let s : State = state_of bench in
    let within = within_bench bench begins in
    record {
      rise = rise_bench bench begins;
      waiting = λ key none. of_filtered s.pending key (keys_of s.units) ∙ and_right _ _ (within key none).0;
      handed = λ key none. of_filtered s.out key (keys_of s.units) ∙ and_right _ _ (within key none).1;
    }

-- ---- numbers and turns go on

no_record : (place : ℕ) → record_at [] place ≡ None
no_record zero = refl
no_record (suc place) = refl

pub numbers_go_on : (limits : Bounds) (bench : BenchView) → NumbersGoOn limits bench
numbers_go_on limits bench = record {
  last = (let n = last_number bench in omega arith);
  turns = λ caller. (let all = on_all bench.origin.pages bench.log.records caller in omega (arith, all));
  none = λ number. no_record (number - last_number bench);
}

-- two in a row are the second
pub are_one : (first second : Bounds) (bench : BenchView) → IsOrigin bench.origin → AreOne first second bench
are_one first second bench begins =
    let same = unseen first bench begins in
    let s : State = state_of bench in
    let last : last_number (checkpointed first bench) ≡ last_number bench = (numbers_go_on first bench).last in
    λ i. record {
      origin = record {
        most_units = second.units;
        units = (same i).units;
        commits = (same i).commits;
        pending = filter (same i).pending (keys_of (same i).units);
        out = filter (same i).out (keys_of (same i).units);
        before = last i;
        pages = pages_after bench.origin.pages bench.log.records;
        last_event = last_event_of bench;
      };
      log = record { limit = second.history; records = [] };
    }
