-- What holds after any calls.
use Rattle.std.proofs.Common.{◌≡◌, ℕ, Bool, true, false, ◌||◌, ◌&&◌, not, List, [], ◌∷◌, refl, sym, ap, ◌∙◌, subst, cond}
use Rattle.std.specs.{List.{list_any}, BTreeMap.{is_at}, List.Sorted.{IsStrictlySortedBy}}
use Rattle.fb_jobs.specs.{Library.Texts.{Texts, Edit}, declared.keys.key.Key.{Key}, Keys.{has_key, scratch, needs, Finding}, Reads.{is_among, Agree}}
use Rattle.fb_jobs.proofs.{SameNeeds.{needs_local}, Library.Names.{exact_name}}
use Rattle.fb_history.specs.declared.answers.Committed.{Committed}
use Rattle.fb_history.specs.declared.answers.Committed.TheVariants.{Done, NoChange, TooManyChanges, SameUnitTwice, StaleBase, NoSuchUnit, TooManyUnits}
use Rattle.fb_history.specs.Machine.{State, Call, ToCommit, ToTake, ToDeliver, ToGiveBack, ToAsk, Finds, Waits, Unknown, shown, reply, after, reaches, commit_answer, after_commit, deliver_answer, after_deliver, give_back_answer, after_give_back}
use Rattle.fb_history.specs.Laws.{is_refusal, refuses_commit, refuses_result, refuses_return, entry_after, AgreeApartFrom}
use Rattle.fb_history.specs.{declared.answers.Delivered.{Delivered}, declared.answers.Delivered.TheVariants.{Accepted, NoSuchKey, NotPending, Stale}}
use Rattle.fb_history.specs.{declared.answers.GivenBack.{GivenBack}, declared.answers.GivenBack.TheVariants.{Returned, NothingOut}}
use Rattle.fb_history.specs.{BenchView.{Origin, IsOrigin, opened, replay, empty_origin}, Due.{due_from}}
use Rattle.fb_history.proofs.Dues.{waits_after, waits_at_origin}
use Rattle.fb_text.specs.Order.{name_cmp}
use Rattle.fb_text.proofs.OrderLemmas.{is_equal}

-- ---- where a history begins

pub begins_empty : (most : ℕ) → IsOrigin (empty_origin most)
unfolding IsStrictlySortedBy
begins_empty most = record { rise = tt; waiting = λ key none. refl; handed = λ key none. refl }

-- ---- refusals

commit_refused : (answer : Committed) (edits : List Edit) (s : State) → refuses_commit answer ≡ true → after_commit answer edits s ≡ s
commit_refused (Done commit) edits s refused = cc
commit_refused NoChange edits s refused = refl
commit_refused TooManyChanges edits s refused = refl
commit_refused (SameUnitTwice unit) edits s refused = refl
commit_refused (StaleBase unit current) edits s refused = refl
commit_refused (NoSuchUnit unit) edits s refused = refl
commit_refused TooManyUnits edits s refused = refl

result_refused : (answer : Delivered) (key : Key) (s : State) → refuses_result answer ≡ true → after_deliver answer key s ≡ s
result_refused Accepted key s refused = cc
result_refused NoSuchKey key s refused = refl
result_refused NotPending key s refused = refl
result_refused (Stale name) key s refused = refl

return_refused : (answer : GivenBack) (key : Key) (s : State) → refuses_return answer ≡ true → after_give_back answer key s ≡ s
return_refused Returned key s refused = cc
return_refused NothingOut key s refused = refl

pub refused_stays : (s : State) (call : Call) → is_refusal (reply s call) ≡ true → after s call ≡ s
unfolding reply after
refused_stays s (ToCommit edits) refused = commit_refused (commit_answer s edits) edits s refused
refused_stays s ToTake refused = cc
refused_stays s (ToDeliver job) refused = result_refused (deliver_answer s job) job.key s refused
refused_stays s (ToGiveBack key) refused = return_refused (give_back_answer s key) key s refused
refused_stays s (ToAsk key) refused = refl

-- ---- entries

entry_bits : (has pending due_now : Bool) (finding : Finding) → pending ≡ (has && due_now) → cond (not has) Unknown (cond pending Waits (Finds finding)) ≡ cond (not has) Unknown (cond due_now Waits (Finds finding))
entry_bits false pending due_now finding is = refl
entry_bits true pending due_now finding is = ap (λ b. cond b Waits (Finds finding)) is

pub entry_is : (origin : Origin) (calls : List Call) (key : Key) → IsOrigin origin → shown (replay (opened origin) calls) key ≡ entry_after origin calls key
entry_is origin calls key begins =
    let s : State = replay (opened origin) calls in
    entry_bits (has_key s.units key) (s.pending key) (due_from (opened origin) calls key) (scratch s.units key)
    (waits_after (opened origin) calls key ((opened origin).pending key) (waits_at_origin origin key begins))

-- ---- reach

pub or_parts : (a b : Bool) → (a || b) ≡ false → (a ≡ false) × (b ≡ false)
or_parts true b e = cc
or_parts false b e = (refl, e)

-- a name among those that a list misses is not of the list
pub not_met : (n : List ℕ) (changed names : List (List ℕ)) → list_any (λ d. is_among d names) changed ≡ false → is_among n names ≡ true → is_among n changed ≡ false
not_met n [] names none among = refl
not_met n (d ∷ ds) names none among =
    let parts = or_parts (is_among d names) (list_any (λ x. is_among x names) ds) none in
    elim (is_at (name_cmp n) d) as (λ b. is_at (name_cmp n) d ≡ b → (b || is_among n ds) ≡ false) [
      | true ↦ λ at. let met : is_among d names ≡ true = subst (λ m. is_among m names ≡ true) (exact_name n d (is_equal _ at)) among in let no : is_among d names ≡ false = parts.0 in cc
      | false ↦ λ _. not_met n ds names parts.1 among
    ] refl

agree_if_missed : (changed : List (List ℕ)) (T U : Texts) (key : Key) → AgreeApartFrom changed T U → reaches changed T key ≡ false → Agree T U (needs T key)
agree_if_missed changed T U key apart missed name among = apart name (not_met name changed (needs T key) missed among)

missed_too : (changed : List (List ℕ)) (T U : Texts) (key : Key) → AgreeApartFrom changed T U → reaches changed T key ≡ false → reaches changed U key ≡ false
missed_too changed T U key apart missed =
    ap (λ names. list_any (λ name. is_among name names) changed) (needs_local T U key (agree_if_missed changed T U key apart missed)) ∙ missed

pub reach_same : (changed : List (List ℕ)) (T U : Texts) (key : Key) → AgreeApartFrom changed T U → reaches changed T key ≡ reaches changed U key
reach_same changed T U key apart = both (reaches changed T key) (reaches changed U key) refl refl
  where
    both : (a b : Bool) → reaches changed T key ≡ a → reaches changed U key ≡ b → reaches changed T key ≡ reaches changed U key
    both true true first second = first ∙ sym second
    both false b first second = first ∙ sym (missed_too changed T U key apart first)
    both true false first second = missed_too changed U T key (λ name none. sym (apart name none)) second ∙ sym second
