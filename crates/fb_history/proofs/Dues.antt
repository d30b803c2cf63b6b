-- The machine's pending keys are those that are due.
use Rattle.std.proofs.Common.{◌≡◌, ℕ, Bool, true, false, ◌||◌, ◌&&◌, not, List, [], ◌∷◌, map, refl, sym, ap, ◌∙◌, subst, Option, Some, None, cond, is_none}
use Rattle.fb_jobs.specs.{Library.Texts.{Edit, unit_of, all_edited}, declared.keys.key.Key.{Key}, Keys.{has_key}, KeyOrder.{same_key}, Reads.{stale}}
use Rattle.fb_history.specs.declared.answers.Committed.{Committed}
use Rattle.fb_history.specs.declared.answers.Committed.TheVariants.{Done, NoChange, TooManyChanges, SameUnitTwice, StaleBase, NoSuchUnit, TooManyUnits}
use Rattle.fb_history.specs.declared.answers.GivenBack.TheVariants.{Returned, NothingOut}
use Rattle.fb_history.specs.Machine.{State, Call, ToCommit, ToTake, ToDeliver, ToGiveBack, ToAsk, commit_answer, after_commit, after_deliver, unless_stale, after_take, next, reaches, after, give_back_answer, after_give_back}
use Rattle.fb_history.specs.BenchView.{BenchView, Origin, IsOrigin, opened, replay, calls_of, state_of}
use Rattle.fb_history.specs.Due.{marks, marks_done, settles, settled, due, is_due}
use Rattle.fb_history.specs.{declared.answers.Delivered.TheVariants.{NotPending}, declared.answers.GivenBack.{GivenBack}}
use Rattle.fb_history.specs.declared.answers.Delivered.TheVariants as delivered
use Rattle.fb_jobs.proofs.Order.{keys_equal}

-- what is known of a key, and whether it is due so far
abbrev pub IsWaiting : State → Key → Bool → Type 0
IsWaiting s k d = s.pending k ≡ (has_key s.units k && d)

same_due : (d : Bool) → d ≡ ((d && not false) || false)
same_due true = refl
same_due false = refl

kept : (s : State) (k : Key) (d : Bool) → IsWaiting s k d → IsWaiting s k ((d && not false) || false)
kept s k d waits = waits ∙ ap (λ b. has_key s.units k && b) (same_due d)

done_bits : (h' h p d r : Bool) → p ≡ (h && d) → (h' && ((p || not h) || r)) ≡ (h' && ((d && not false) || (h' && (not h || r))))
done_bits false h p d r is = refl
done_bits true true p true r is = ap (λ x. (x || false) || r) is
done_bits true true p false r is = ap (λ x. (x || false) || r) is
done_bits true false p true r is = ap (λ x. (x || true) || r) is
done_bits true false p false r is = ap (λ x. (x || true) || r) is

commit_step : (a : Committed) (s : State) (edits : List Edit) (k : Key) (d : Bool) → IsWaiting s k d → IsWaiting (after_commit a edits s) k ((d && not false) || marks_done a s edits k)
commit_step (Done n) s edits k d waits = done_bits (has_key (all_edited n edits s.units) k) (has_key s.units k) (s.pending k) d (reaches (map unit_of edits) (all_edited n edits s.units) k) waits
commit_step NoChange s edits k d waits = kept s k d waits
commit_step TooManyChanges s edits k d waits = kept s k d waits
commit_step (SameUnitTwice u) s edits k d waits = kept s k d waits
commit_step (StaleBase u n) s edits k d waits = kept s k d waits
commit_step (NoSuchUnit u) s edits k d waits = kept s k d waits
commit_step TooManyUnits s edits k d waits = kept s k d waits

take_step : (o : Option Key) (s : State) (k : Key) (d : Bool) → IsWaiting s k d → IsWaiting (after_take o s) k ((d && not false) || false)
take_step None s k d waits = kept s k d waits
take_step (Some q) s k d waits = waits ∙ ap (λ b. has_key s.units k && b) (same_due d)

and_none : (b d : Bool) → (b && ((d && false) || false)) ≡ false
and_none true true = refl
and_none true false = refl
and_none false d = refl

-- e: whether the delivery is for the key; h, p, o: what the state has at the key of the delivery
deliver_bits : (s : State) (q k : Key) (e h p : Bool) (o : Option (List ℕ)) (d : Bool) → same_key q k ≡ e → has_key s.units q ≡ h → s.pending q ≡ p → IsWaiting s k d → IsWaiting (after_deliver (cond (not h) delivered.NoSuchKey (cond (not p) NotPending (unless_stale o))) q s) k ((d && not (e && is_none o)) || false)
deliver_bits s q k true true true None d same has pends waits = ap (λ b. not b && s.pending k) same ∙ sym (and_none (has_key s.units k) d)
deliver_bits s q k false true true None d same has pends waits = ap (λ b. not b && s.pending k) same ∙ kept s k d waits
deliver_bits s q k true true true (Some n) d same has pends waits = kept s k d waits
deliver_bits s q k false true true (Some n) d same has pends waits = kept s k d waits
deliver_bits s q k true true false None d same has pends waits = subst (λ x. s.pending x ≡ false) (keys_equal q k same) pends ∙ sym (and_none (has_key s.units k) d)
deliver_bits s q k true true false (Some n) d same has pends waits = kept s k d waits
deliver_bits s q k false true false o d same has pends waits = kept s k d waits
deliver_bits s q k true false p None d same has pends waits =
    let gone : has_key s.units k ≡ false = subst (λ x. has_key s.units x ≡ false) (keys_equal q k same) has in
    waits ∙ ap (λ h. h && d) gone ∙ sym (and_none (has_key s.units k) d)
deliver_bits s q k true false p (Some n) d same has pends waits = kept s k d waits
deliver_bits s q k false false p o d same has pends waits = kept s k d waits

give_back_step : (a : GivenBack) (s : State) (q k : Key) (d : Bool) → IsWaiting s k d → IsWaiting (after_give_back a q s) k ((d && not false) || false)
give_back_step Returned s q k d waits = kept s k d waits
give_back_step NothingOut s q k d waits = kept s k d waits

step : (s : State) (c : Call) (k : Key) (d : Bool) → IsWaiting s k d → IsWaiting (after s c) k ((d && not (settles s c k)) || marks s c k)
unfolding after
step s (ToCommit edits) k d waits = commit_step (commit_answer s edits) s edits k d waits
step s ToTake k d waits = take_step (next s) s k d waits
step s (ToDeliver job) k d waits = deliver_bits s job.key k (same_key job.key k) (has_key s.units job.key) (s.pending job.key) (stale s.units job.reads) d refl refl refl waits
step s (ToGiveBack q) k d waits = give_back_step (give_back_answer s q) s q k d waits
step s (ToAsk q) k d waits = kept s k d waits

regroup : (d a m b e : Bool) → ((((d && not a) || m) && not b) || e) ≡ ((d && not (a || b)) || ((m && not b) || e))
regroup true true true true e = refl
regroup true true true false e = refl
regroup true true false b e = refl
regroup true false true true e = refl
regroup true false true false e = refl
regroup true false false true e = refl
regroup true false false false e = refl
regroup false a true true e = refl
regroup false a true false e = refl
regroup false a false b e = refl

last_due : (d : Bool) → d ≡ ((d && not false) || false)
last_due = same_due

pub waits_after : (s : State) (calls : List Call) (k : Key) (d : Bool) → IsWaiting s k d → IsWaiting (replay s calls) k ((d && not (settled s calls k)) || due s calls k)
unfolding replay settled due
waits_after s [] k d waits = waits ∙ ap (λ b. has_key s.units k && b) (last_due d)
waits_after s (c ∷ cs) k d waits =
    waits_after (after s c) cs k ((d && not (settles s c k)) || marks s c k) (step s c k d waits)
    ∙ ap (λ b. has_key (replay (after s c) cs).units k && b) (regroup d (settles s c k) (marks s c k) (settled (after s c) cs k) (due (after s c) cs k))

own_pending : (h p : Bool) → (h ≡ false → p ≡ false) → p ≡ (h && p)
own_pending true p sound = refl
own_pending false p sound = sound refl

-- where a history begins, pending keys are of the texts
pub waits_at_origin : (origin : Origin) (k : Key) → IsOrigin origin → IsWaiting (opened origin) k ((opened origin).pending k)
waits_at_origin origin k begins = own_pending (has_key origin.units k) ((opened origin).pending k) (begins.waiting k)

-- pending are exactly the keys that are due
pub pending_is_due : (bench : BenchView) (k : Key) → IsOrigin bench.origin → (state_of bench).pending k ≡ is_due bench k
pending_is_due bench k begins = waits_after (opened bench.origin) (calls_of bench.log) k ((opened bench.origin).pending k) (waits_at_origin bench.origin k begins)
