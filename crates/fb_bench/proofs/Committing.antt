-- A commit's answer, and what it leaves.
use Rattle.std.proofs.Common.{◌≡◌, ℕ, ◌+◌, ◌<◌, ◌≤◌, Bool, true, false, List, [], ◌∷◌, map, length, refl, sym, ap, ◌∙◌, subst, Option, Some, None, cond, nat_lt, ◌==◌, arith}
use Rattle.std.proofs.lemmas.Bool.Decides.{nat_tests}
use Rattle.std.specs.Option.{option_map}
use Rattle.fb_entries.specs.{Keyed.{Keyed}, Library.Texts.{Texts, Held, held, text_in, text_at, Edit, Puts, Removes, unit_of, all_edited}}
use Rattle.fb_entries.specs.{Jobs.declared.keys.key.Key.{Key}, declared.renewal.Renewal.{Renewal}, Renew.{IsCarriedOut, IsRenewal, HasRoom}}
use Rattle.fb_history.specs.declared.answers.Committed.{Committed}
use Rattle.fb_history.specs.declared.answers.Committed.TheVariants.{Done, NoChange, TooManyChanges, SameUnitTwice, StaleBase, NoSuchUnit, TooManyUnits}
use Rattle.fb_history.specs.Machine.{after_give_back, give_back_answer, State, Call, ToCommit, ToTake, ToDeliver, ToGiveBack, ToAsk, OfCommit, reply, after, commit_answer, after_commit, after_take, after_deliver, deliver_answer, next, after_done, refusal, or_else, or_some, repeated_refusal, first_repeated, first_misfit, misfit, misfit_at}
use Rattle.fb_history.specs.{declared.answers.Delivered.{Delivered}, declared.answers.Delivered.TheVariants.{Accepted, NoSuchKey, NotPending, Stale}}
use Rattle.fb_history.specs.{declared.answers.GivenBack.{GivenBack}, declared.answers.GivenBack.TheVariants.{Returned, NothingOut}}
use Rattle.fb_history.specs.{BenchView.{BenchView, opened, replay, calls_of, state_of}, Laws.{AgreeApartFrom}}
use Rattle.fb_bench.specs.{Consistent.{Agrees}, Outcomes.{answer_at}}
use Rattle.fb_history.proofs.Steps.{reply_commit, after_commit_is}
use Rattle.fb_bench.proofs.{Renewing.{ScratchLocal, held_all_edited}, Renewals.{agrees_done}}

-- ---- a refusal leaves the state

abbrev Stays : Option Committed → Type 0
Stays None = Unit {0}
Stays (Some answer) = (edits : List Edit) (s : State) → after_commit answer edits s ≡ s

stays_misfit : (h : Option Held) (e : Edit) → Stays (misfit_at h e)
stays_misfit None (Puts u base text) = elim (base == 0) as (λ b. Stays (cond b None (Some (StaleBase u 0)))) [ true ↦ tt | false ↦ λ es s. refl ]
stays_misfit (Some it) (Puts u base text) = elim (base == it.revision) as (λ b. Stays (cond b None (Some (StaleBase u it.revision)))) [ true ↦ tt | false ↦ λ es s. refl ]
stays_misfit None (Removes u base) = λ es s. refl
stays_misfit (Some it) (Removes u base) = elim (base == it.revision) as (λ b. Stays (cond b None (Some (StaleBase u it.revision)))) [ true ↦ tt | false ↦ λ es s. refl ]

stays_or : (o p : Option Committed) → Stays o → Stays p → Stays (or_some o p)
stays_or None p one two = two
stays_or (Some r) p one two = one

first_or : (T : Texts) (e : Edit) (es : List Edit) (o : Option Committed) → misfit T e ≡ o → first_misfit T (e ∷ es) ≡ or_some o (first_misfit T es)
first_or T e es None is = ap (λ m. elim m as (λ _. Option Committed) [ None ↦ first_misfit T es | Some answer ↦ Some answer ]) is
first_or T e es (Some r) is = ap (λ m. elim m as (λ _. Option Committed) [ None ↦ first_misfit T es | Some answer ↦ Some answer ]) is

stays_first : (T : Texts) (es : List Edit) → Stays (first_misfit T es)
stays_first T [] = tt
stays_first T (e ∷ es) = subst Stays (sym (first_or T e es (misfit T e) refl)) (stays_or (misfit T e) (first_misfit T es) (stays_misfit (held T (unit_of e)) e) (stays_first T es))

stays_repeats : (o : Option (List ℕ)) → Stays (repeated_refusal o)
stays_repeats None = tt
stays_repeats (Some u) = λ es s. refl

stays_refusal : (T : Texts) (edits : List Edit) → Stays (refusal T edits)
stays_refusal T edits =
    elim (length edits == 0) as (λ b. Stays (cond b (Some NoChange) (cond (nat_lt 16 (length edits)) (Some TooManyChanges) (or_some (repeated_refusal (first_repeated (map unit_of edits))) (first_misfit T edits))))) [
      | true ↦ λ es s. refl
      | false ↦ elim (nat_lt 16 (length edits)) as (λ b. Stays (cond b (Some TooManyChanges) (or_some (repeated_refusal (first_repeated (map unit_of edits))) (first_misfit T edits)))) [
        | true ↦ λ es s. refl
        | false ↦ stays_or (repeated_refusal (first_repeated (map unit_of edits))) (first_misfit T edits) (stays_repeats (first_repeated (map unit_of edits))) (stays_first T edits)
      ]
    ]

pub refused_stays : (T : Texts) (edits : List Edit) (r : Committed) (s : State) → Some r ≡ refusal T edits → after_commit r edits s ≡ s
refused_stays T edits r s e = let stays : Stays (Some r) = subst Stays (sym e) (stays_refusal T edits) in stays edits s

-- ---- the limit of units is that of the start

done_most : (r : Committed) (edits : List Edit) (s : State) → (after_commit r edits s).most_units ≡ s.most_units
done_most (Done n) edits s = refl
done_most NoChange edits s = refl
done_most TooManyChanges edits s = refl
done_most (SameUnitTwice u) edits s = refl
done_most (StaleBase u n) edits s = refl
done_most (NoSuchUnit u) edits s = refl
done_most TooManyUnits edits s = refl

take_most : (o : Option Key) (s : State) → (after_take o s).most_units ≡ s.most_units
take_most None s = refl
take_most (Some k) s = refl

deliver_most : (d : Delivered) (k : Key) (s : State) → (after_deliver d k s).most_units ≡ s.most_units
deliver_most Accepted k s = refl
deliver_most NoSuchKey k s = refl
deliver_most NotPending k s = refl
deliver_most (Stale n) k s = refl

give_back_most : (a : GivenBack) (k : Key) (s : State) → (after_give_back a k s).most_units ≡ s.most_units
give_back_most Returned k s = refl
give_back_most NothingOut k s = refl

after_most : (s : State) (call : Call) → (after s call).most_units ≡ s.most_units
unfolding after
after_most s (ToCommit edits) = done_most (commit_answer s edits) edits s
after_most s ToTake = take_most (next s) s
after_most s (ToDeliver job) = deliver_most (deliver_answer s job) job.key s
after_most s (ToGiveBack k) = give_back_most (give_back_answer s k) k s
after_most s (ToAsk k) = refl

replay_most : (s : State) (calls : List Call) → (replay s calls).most_units ≡ s.most_units
unfolding replay
replay_most s [] = refl
replay_most s (c ∷ cs) = replay_most (after s c) cs ∙ after_most s c

pub most_units_of : (bench : BenchView) → (state_of bench).most_units ≡ bench.origin.most_units
most_units_of bench = replay_most (opened bench.origin) (calls_of bench.log)

-- ---- the answer

pub refused_at : (most number : ℕ) (T : Texts) (edits : List Edit) (r : Committed) → Some r ≡ refusal T edits → r ≡ answer_at most number T edits
refused_at most number T edits r e = λ i. or_else (e i) (cond (nat_lt most (length (all_edited number edits T))) TooManyUnits (Done number))

less_true : (a b : ℕ) → a < b → nat_lt a b ≡ true
less_true a b h = grind (arith, nat_tests)

less_false : (a b : ℕ) → b ≤ a → nat_lt a b ≡ false
less_false a b h = grind (arith, nat_tests)

pub too_many_at : (most number : ℕ) (T U : Texts) (edits : List Edit) → None ≡ refusal T edits → U ≡ all_edited number edits T → most < length U → TooManyUnits ≡ answer_at most number T edits
too_many_at most number T U edits none is many =
    let test : nat_lt most (length (all_edited number edits T)) ≡ true = ap (λ us. nat_lt most (length us)) (sym is) ∙ less_true most (length U) many in
    sym (ap (λ b. cond b TooManyUnits (Done number)) test) ∙ (λ i. or_else (none i) (cond (nat_lt most (length (all_edited number edits T))) TooManyUnits (Done number)))

pub done_at : (most number : ℕ) (T U : Texts) (edits : List Edit) → None ≡ refusal T edits → U ≡ all_edited number edits T → length U ≤ most → Done number ≡ answer_at most number T edits
done_at most number T U edits none is few =
    let test : nat_lt most (length (all_edited number edits T)) ≡ false = ap (λ us. nat_lt most (length us)) (sym is) ∙ less_false most (length U) few in
    sym (ap (λ b. cond b TooManyUnits (Done number)) test) ∙ (λ i. or_else (none i) (cond (nat_lt most (length (all_edited number edits T))) TooManyUnits (Done number)))

-- what changes of the kept texts come to is the machine's answer
pub answer_kept : (bench : BenchView) (T : Texts) (n : ℕ) (edits : List Edit) → T ≡ (state_of bench).units → n ≡ (state_of bench).commits → answer_at bench.origin.most_units (n + 1) T edits ≡ commit_answer (state_of bench) edits
answer_kept bench T n edits same number = λ i. answer_at (sym (most_units_of bench) i) (number i + 1) (same i) edits

pub commits_is : (s : State) (made edits : List Edit) (answer : Committed) → made ≡ edits → answer ≡ commit_answer s edits → OfCommit answer ≡ reply s (ToCommit made)
commits_is s made edits answer same is = ap OfCommit (is ∙ ap (λ es. commit_answer s es) (sym same)) ∙ sym (reply_commit s made)

pub committed_is : (s : State) (made edits : List Edit) (answer : Committed) → made ≡ edits → answer ≡ commit_answer s edits → after s (ToCommit made) ≡ after_commit answer edits s
committed_is s made edits answer same is = after_commit_is s made ∙ (λ i. after_commit (commit_answer s (same i)) (same i) s) ∙ ap (λ a. after_commit a edits s) (sym is)

-- ---- what is kept after a commit that is done

pub agrees_renewed : ScratchLocal → (n : ℕ) (edits : List Edit) (T U : Texts) (old room new : Keyed) (s : State) (it : Renewal) → U ≡ all_edited (n + 1) edits T → Agrees T n old s → IsRenewal U (map unit_of edits) old it → HasRoom it old room → IsCarriedOut it room new → Agrees U (n + 1) new (after_done (n + 1) edits s)
agrees_renewed law n edits T U old room new s it is agrees found made done =
    let units : U ≡ all_edited (n + 1) edits s.units = is ∙ ap (λ us. all_edited (n + 1) edits us) agrees.units_are in
    subst (λ us. Agrees us (n + 1) new (after_done (n + 1) edits s)) (sym units)
    (agrees_done law n edits T s it (n + 1) old room new agrees (subst (λ us. IsRenewal us (map unit_of edits) old it) units found) made done)

-- ---- a commit that nothing is against

-- changes no unit twice
pub changes_once : (T : Texts) (edits : List Edit) → None ≡ refusal T edits → first_repeated (map unit_of edits) ≡ None
changes_once T edits none = by (length edits == 0) (nat_lt 16 (length edits)) (first_repeated (map unit_of edits)) none
  where
    by : (a b : Bool) (o : Option (List ℕ)) → None ≡ cond a (Some NoChange) (cond b (Some TooManyChanges) (or_some (repeated_refusal o) (first_misfit T edits))) → o ≡ None
    by true b o e = cc
    by false true o e = cc
    by false false None e = refl
    by false false (Some unit) e = cc

-- and changes these units alone
pub others_stay : (commit : ℕ) (edits : List Edit) (T U : Texts) → U ≡ all_edited commit edits T → AgreeApartFrom (map unit_of edits) T U
others_stay commit edits T U is name apart =
    sym (ap (λ us. text_at us name) is ∙ ap (option_map text_in) (held_all_edited name commit edits T apart))
