-- The texts of every workbench stand by rising name, and its keys by rising key.
use Rattle.std.proofs.{Common.{◌≡◌, ℕ, true, false, List, [], ◌∷◌, refl, ap, ◌∙◌, Option, Some, None, cond}, lemmas.List.Kept.{IsStrictlySortedBy-filter}}
use Rattle.std.specs.{List.{AllByRecursion}, List.Sorted.{IsStrictlySortedBy}, Map.{remove_entry}, BTreeMap.{is_at, insert_entry}}
use Rattle.std.specs.{Ordering.{match_ordering, ordering_reverse}, declared.cmp.Ordering.TheVariants.{Less, Equal, Greater}}
use Rattle.fb_jobs.proofs.{Library.Names.{name_total}, KindLemmas.{all_keys_rise}}
use Rattle.fb_jobs.specs.{Library.Texts.{Texts, Held, Edit, Puts, Removes, edited, all_edited, names_of}, declared.keys.key.Key.{Key}, Keys.{has_key}}
use Rattle.fb_jobs.specs.{KeyOrder.{key_cmp}, Kinds.{all_keys}}
use Rattle.fb_text.specs.Order.{name_cmp}
use Rattle.fb_history.specs.declared.answers.Committed.{Committed}
use Rattle.fb_history.specs.declared.answers.Committed.TheVariants.{Done, NoChange, TooManyChanges, SameUnitTwice, StaleBase, NoSuchUnit, TooManyUnits}
use Rattle.fb_history.specs.Machine.{State, Call, ToCommit, ToTake, ToDeliver, ToGiveBack, ToAsk, commit_answer, after_commit, next, after_take, deliver_answer, after_deliver, give_back_answer, after_give_back, after, keys_of}
use Rattle.fb_history.specs.BenchView.{BenchView, IsOrigin, opened, replay, calls_of, state_of}
use Rattle.fb_history.specs.{declared.answers.Delivered.{Delivered}, declared.answers.Delivered.TheVariants.{Accepted, NoSuchKey, NotPending, Stale}}
use Rattle.fb_history.specs.{declared.answers.GivenBack.{GivenBack}, declared.answers.GivenBack.TheVariants.{Returned, NothingOut}}

abbrev Rise : Texts → Type 0
Rise texts = IsStrictlySortedBy name_cmp (names_of texts)

abbrev Above : List ℕ → Texts → Type 0
Above name texts = AllByRecursion (λ other. name_cmp name other ≡ Less) (names_of texts)

-- ---- one edit

above_more : (name other : List ℕ) (texts : Texts) → name_cmp name other ≡ Less → Above other texts → Above name texts
above_more name other [] below above = tt
above_more name other (e ∷ es) below above = (name_total.trans name other e.0 below above.0, above_more name other es below above.1)

above_put : (first : List ℕ) (texts : Texts) (name : List ℕ) (it : Held) → Above first texts → name_cmp first name ≡ Less → Above first (insert_entry name_cmp texts name it)
above_put first [] name it above below = (below, tt)
above_put first (e ∷ es) name it above below =
    elim (name_cmp name e.0) as (λ o. Above first (match_ordering o ((name, it) ∷ e ∷ es) ((e.0, it) ∷ es) (e ∷ insert_entry name_cmp es name it))) [
      | Less ↦ (below, above)
      | Equal ↦ above
      | Greater ↦ (above.0, above_put first es name it above.1 below)
    ]

rise_put : (texts : Texts) (name : List ℕ) (it : Held) → Rise texts → Rise (insert_entry name_cmp texts name it)
unfolding IsStrictlySortedBy
rise_put [] name it rise = (tt, tt)
rise_put (e ∷ es) name it rise =
    elim (name_cmp name e.0) as (λ o. name_cmp name e.0 ≡ o → Rise (match_ordering o ((name, it) ∷ e ∷ es) ((e.0, it) ∷ es) (e ∷ insert_entry name_cmp es name it))) [
      | Less ↦ λ below. ((below, above_more name e.0 es below rise.0), rise)
      | Equal ↦ λ same. rise
      | Greater ↦ λ above. (above_put e.0 es name it rise.0 (name_total.antisymm e.0 name ∙ ap ordering_reverse above), rise_put es name it rise.1)
    ] refl

above_removed : (first : List ℕ) (texts : Texts) (name : List ℕ) → Above first texts → Above first (remove_entry (is_at (name_cmp name)) texts)
above_removed first [] name above = tt
above_removed first (e ∷ es) name above =
    elim (is_at (name_cmp name) e.0) as (λ b. Above first (cond b es (e ∷ remove_entry (is_at (name_cmp name)) es))) [
      | true ↦ above.1
      | false ↦ (above.0, above_removed first es name above.1)
    ]

rise_removed : (texts : Texts) (name : List ℕ) → Rise texts → Rise (remove_entry (is_at (name_cmp name)) texts)
unfolding IsStrictlySortedBy
rise_removed [] name rise = tt
rise_removed (e ∷ es) name rise =
    elim (is_at (name_cmp name) e.0) as (λ b. Rise (cond b es (e ∷ remove_entry (is_at (name_cmp name)) es))) [
      | true ↦ rise.1
      | false ↦ (above_removed e.0 es name rise.0, rise_removed es name rise.1)
    ]

rise_edited : (commit : ℕ) (edit : Edit) (texts : Texts) → Rise texts → Rise (edited commit edit texts)
rise_edited commit (Puts unit base text) texts rise = rise_put texts unit (record { revision = commit; text = text }) rise
rise_edited commit (Removes unit base) texts rise = rise_removed texts unit rise

rise_all_edited : (commit : ℕ) (edits : List Edit) (texts : Texts) → Rise texts → Rise (all_edited commit edits texts)
rise_all_edited commit [] texts rise = rise
rise_all_edited commit (edit ∷ edits) texts rise = rise_all_edited commit edits (edited commit edit texts) (rise_edited commit edit texts rise)

-- ---- one call

rise_commit : (answer : Committed) (edits : List Edit) (s : State) → Rise s.units → Rise (after_commit answer edits s).units
rise_commit (Done commit) edits s rise = rise_all_edited commit edits s.units rise
rise_commit NoChange edits s rise = rise
rise_commit TooManyChanges edits s rise = rise
rise_commit (SameUnitTwice unit) edits s rise = rise
rise_commit (StaleBase unit current) edits s rise = rise
rise_commit (NoSuchUnit unit) edits s rise = rise
rise_commit TooManyUnits edits s rise = rise

rise_take : (next_key : Option Key) (s : State) → Rise s.units → Rise (after_take next_key s).units
rise_take None s rise = rise
rise_take (Some key) s rise = rise

rise_deliver : (answer : Delivered) (key : Key) (s : State) → Rise s.units → Rise (after_deliver answer key s).units
rise_deliver Accepted key s rise = rise
rise_deliver NoSuchKey key s rise = rise
rise_deliver NotPending key s rise = rise
rise_deliver (Stale name) key s rise = rise

rise_give_back : (answer : GivenBack) (key : Key) (s : State) → Rise s.units → Rise (after_give_back answer key s).units
rise_give_back Returned key s rise = rise
rise_give_back NothingOut key s rise = rise

rise_after : (s : State) (call : Call) → Rise s.units → Rise (after s call).units
unfolding after
rise_after s (ToCommit edits) rise = rise_commit (commit_answer s edits) edits s rise
rise_after s ToTake rise = rise_take (next s) s rise
rise_after s (ToDeliver job) rise = rise_deliver (deliver_answer s job) job.key s rise
rise_after s (ToGiveBack key) rise = rise_give_back (give_back_answer s key) key s rise
rise_after s (ToAsk key) rise = rise

rise_replay : (s : State) (calls : List Call) → Rise s.units → Rise (replay s calls).units
unfolding replay
rise_replay s [] rise = rise
rise_replay s (call ∷ calls) rise = rise_replay (after s call) calls (rise_after s call rise)

-- ---- the keys

keys_sorted : (texts : Texts) → Rise texts → IsStrictlySortedBy key_cmp (keys_of texts)
keys_sorted texts rise = IsStrictlySortedBy-filter key_cmp (has_key texts) (all_keys (names_of texts)) (all_keys_rise (names_of texts) rise)

pub rise_bench : (bench : BenchView) → IsOrigin bench.origin → Rise (state_of bench).units
rise_bench bench begins = rise_replay (opened bench.origin) (calls_of bench.log) begins.rise

-- the keys of every workbench rise
pub keys_rise : (bench : BenchView) → IsOrigin bench.origin → IsStrictlySortedBy key_cmp (keys_of (state_of bench).units)
keys_rise bench begins = keys_sorted (state_of bench).units (rise_bench bench begins)
