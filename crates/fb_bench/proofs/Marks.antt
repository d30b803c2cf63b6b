-- What an entry says of the marks of its key.
use Rattle.std.proofs.Common.{◌≡◌, ℕ, Bool, true, false, ◌||◌, ◌&&◌, not, List, refl, sym, ap, ◌∙◌, subst, Option, Some, None, [], ◌∷◌, arith, cond}
use Rattle.std.proofs.lemmas.{Bool.{and_parts}, Bool.Decides.{nat_tests}, Cmp.{nat_list_eq_equiv}}
use Rattle.std.specs.{Option.{option_map}, BTreeMap.{is_at}, List.{list_any}, Map.{lookup}, declared.sync.Arc.{Arc}, declared.alloc.Global.{Global}}
use Rattle.fb_entries.specs.{Keyed.{Keyed, IsFirstReady, can_take, entry_at}, Library.Texts.{Texts, Held, held}, Jobs.declared.keys.key.Key.{Key}}
use Rattle.fb_entries.specs.{Jobs.declared.values.value.Value.{Value}, Jobs.Values.{finding_of}, Jobs.Hints.{AreKept}, Jobs.Keys.{Finding, has_key, needs, scratch}}
use Rattle.fb_entries.specs.{Jobs.KeyOrder.{key_cmp, same_key}, declared.entry.Entry.{Entry}, Jobs.Reads.{PlainJob, reads_under, same_found, stale}, Found.{found_in, kept_in}, Jobs.Finished.{value_of}}
use Rattle.fb_entries.specs.Marking.{unless_kept, value_in, with_found, with_out, with_value, ChangesEntry, MarksKey, SameKeys}
use Rattle.fb_history.specs.Machine.{State, OfTake, ToTake, is_ready, next, after_take, after_deliver, removed, taken, taken_job, unless_stale, deliver_answer}
use Rattle.fb_history.specs.BenchView.{BenchView, recorded, reply_at, state_of}
use Rattle.fb_history.specs.{declared.answers.Delivered.{Delivered}, declared.answers.Delivered.TheVariants.{Accepted, NoSuchKey, NotPending, Stale}}
use Rattle.fb_bench.specs.Consistent.{Agrees, EntryFits, IsScratch}
use Rattle.fb_entries.proofs.Jobs.Order.{keys_equal}
use Rattle.fb_history.proofs.{Least.{next_none, next_passes, next_some}, Steps.{after_take_is, reply_take, state_recorded}}

pending_has : (s : State) (k : Key) (o : Option Entry) → EntryFits s k o → s.pending k ≡ true → has_key s.units k ≡ true
pending_has s k None fits waits = cc
pending_has s k (Some it) fits waits = fits.0

pub ready_has : (s : State) (k : Key) (o : Option Entry) → EntryFits s k o → is_ready s k ≡ true → has_key s.units k ≡ true
ready_has s k None fits ready = let no : is_ready s k ≡ false = ap (λ b. b && not (s.out k)) fits.1 in cc
ready_has s k (Some it) fits ready = fits.0

kept_value : (texts : Texts) (k : Key) (value : Option Finding) (finding : Finding) → IsScratch texts k value → value ≡ Some finding → finding ≡ scratch texts k
kept_value texts k value finding is e = subst (IsScratch texts k) e is

entry_kept : (s : State) (k : Key) (o : Option Entry) (finding : Finding) → EntryFits s k o → kept_in o ≡ Some finding → finding ≡ scratch s.units k
entry_kept s k None finding fits e = cc
entry_kept s k (Some it) finding fits e = kept_value s.units k (value_in it) finding fits.3 e

entry_found : (s : State) (k : Key) (o : Option Entry) (finding : Finding) → EntryFits s k o → found_in o ≡ Some finding → finding ≡ scratch s.units k
entry_found s k None finding fits e = cc
entry_found s k (Some it) finding fits e = kept_value s.units k (found_in (Some it)) finding fits.4 e

-- the values that are kept are those of the texts
pub all_kept : {units : Texts} {commits : ℕ} {entries : Keyed} {s : State} → Agrees units commits entries s → AreKept units (λ key. kept_in (entry_at entries key))
all_kept {entries = entries} {s = s} agrees k finding e =
    entry_kept s k (entry_at entries k) finding (agrees.each k) e ∙ ap (λ texts. scratch texts k) (sym agrees.units_are)

-- and so are those that were found
pub all_found : {units : Texts} {commits : ℕ} {entries : Keyed} {s : State} → Agrees units commits entries s → AreKept units (λ key. found_in (entry_at entries key))
all_found {entries = entries} {s = s} agrees k finding e =
    entry_found s k (entry_at entries k) finding (agrees.each k) e ∙ ap (λ texts. scratch texts k) (sym agrees.units_are)

-- the first key that can be taken is the least that is ready
pub first_is_next : (units : Texts) (commits : ℕ) (it : Keyed) (s : State) (first : Option Key) → Agrees units commits it s → IsFirstReady it first → first ≡ next s
first_is_next units commits it s None agrees none = sym (next_none s (λ q. sym (agrees.ready_are q) ∙ none q))
first_is_next units commits it s (Some k) agrees first =
    let ready : is_ready s k ≡ true = sym (agrees.ready_are k) ∙ first.0 in
    sym (next_some s k ready (ready_has s k _ (agrees.each k) ready) (λ q passes. first.1 q (agrees.ready_are q ∙ passes)))

-- ---- after a take

pub take_fits : (s : State) (k q : Key) (o : Option Entry) (b : Bool) → same_key k q ≡ b → is_ready s k ≡ true → EntryFits s q o → EntryFits (after_take (Some k) s) q (cond b (option_map (λ (it : Entry). record it { out = true }) o) o)
take_fits s k q None true same ready fits =
    let at : k ≡ q = keys_equal k q same in
    let here : is_ready s q ≡ true = subst (λ x. is_ready s x ≡ true) at ready in
    let no : is_ready s q ≡ false = ap (λ b. b && not (s.out q)) fits.1 in cc
take_fits s k q (Some it) true same ready fits = (fits.0, fits.1, ap (λ b. b || s.out q) same, fits.3, fits.4)
take_fits s k q None false same ready fits = (fits.0, fits.1, ap (λ b. b || s.out q) same ∙ fits.2)
take_fits s k q (Some it) false same ready fits = (fits.0, fits.1, ap (λ b. b || s.out q) same ∙ fits.2, fits.3, fits.4)

and_not_true : (b : Bool) → (b && not true) ≡ false
and_not_true true = refl
and_not_true false = refl

pub take_ready : (s : State) (k q : Key) (b now : Bool) → same_key k q ≡ b → now ≡ is_ready s q → cond b false now ≡ is_ready (after_take (Some k) s) q
take_ready s k q true now same was = sym (ap (λ b. s.pending q && not (b || s.out q)) same ∙ and_not_true (s.pending q))
take_ready s k q false now same was = was ∙ sym (ap (λ b. s.pending q && not (b || s.out q)) same)

-- what is kept agrees after a key is handed out
pub agrees_take : (units : Texts) (commits : ℕ) (old new : Keyed) (s : State) (k : Key) → Agrees units commits old s → is_ready s k ≡ true → ChangesEntry k (with_out true) (entry_at old) (entry_at new) → MarksKey k false (can_take old) (can_take new) → Agrees units commits new (after_take (Some k) s)
agrees_take units commits old new s k agrees ready marked left = record {
  units_are = agrees.units_are;
  commits_are = agrees.commits_are;
  each = λ q. subst (λ o. EntryFits (after_take (Some k) s) q o) (sym (marked q)) (take_fits s k q (entry_at old q) (same_key k q) refl ready (agrees.each q));
  ready_are = λ q. left q ∙ take_ready s k q (same_key k q) (can_take old q) refl (agrees.ready_are q);
}

-- ---- after a result that is accepted

pub deliver_fits : (s : State) (k q : Key) (o : Option Entry) (made : PlainJob) (b : Bool) → same_key k q ≡ b → value_of made ≡ scratch s.units k → EntryFits s q o → EntryFits (after_deliver Accepted k s) q (cond b (option_map (with_value made) o) o)
deliver_fits s k q None made true same value fits = (fits.0, ap (λ b. not b && s.pending q) same, ap (λ b. not b && s.out q) same)
deliver_fits s k q (Some it) made true same value fits =
    (fits.0, ap (λ b. not b && s.pending q) same, ap (λ b. not b && s.out q) same, value ∙ ap (λ x. scratch s.units x) (keys_equal k q same), tt)
deliver_fits s k q None made false same value fits = (fits.0, ap (λ b. not b && s.pending q) same ∙ fits.1, ap (λ b. not b && s.out q) same ∙ fits.2)
deliver_fits s k q (Some it) made false same value fits = (fits.0, ap (λ b. not b && s.pending q) same ∙ fits.1, ap (λ b. not b && s.out q) same ∙ fits.2, fits.3, fits.4)

pub deliver_ready : (s : State) (k q : Key) (b now : Bool) → same_key k q ≡ b → now ≡ is_ready s q → cond b false now ≡ is_ready (after_deliver Accepted k s) q
deliver_ready s k q true now same was = sym (ap (λ b. (not b && s.pending q) && not (not b && s.out q)) same)
deliver_ready s k q false now same was = was ∙ sym (ap (λ b. (not b && s.pending q) && not (not b && s.out q)) same)

pub agrees_deliver : (units : Texts) (commits : ℕ) (old new : Keyed) (s : State) (k : Key) (made : PlainJob) → Agrees units commits old s → value_of made ≡ scratch s.units k → ChangesEntry k (with_value made) (entry_at old) (entry_at new) → MarksKey k false (can_take old) (can_take new) → Agrees units commits new (after_deliver Accepted k s)
agrees_deliver units commits old new s k made agrees value marked left = record {
  units_are = agrees.units_are;
  commits_are = agrees.commits_are;
  each = λ q. subst (λ o. EntryFits (after_deliver Accepted k s) q o) (sym (marked q)) (deliver_fits s k q (entry_at old q) made (same_key k q) refl value (agrees.each q));
  ready_are = λ q. left q ∙ deliver_ready s k q (same_key k q) (can_take old q) refl (agrees.ready_are q);
}

accepted_stale : (o : Option (List ℕ)) → Accepted ≡ unless_stale o → o ≡ None
accepted_stale None e = refl
accepted_stale (Some n) e = cc

accepted_parts : (h p : Bool) (o : Option (List ℕ)) → Accepted ≡ cond (not h) NoSuchKey (cond (not p) NotPending (unless_stale o)) → o ≡ None
accepted_parts true true o e = accepted_stale o e
accepted_parts true false o e = cc
accepted_parts false p o e = cc

-- what is accepted was read as it is
pub accepted_fresh : (s : State) (it : PlainJob) → Accepted ≡ deliver_answer s it → stale s.units it.reads ≡ None
accepted_fresh s it e = accepted_parts (has_key s.units it.key) (s.pending it.key) (stale s.units it.reads) e

same_itself : (o : Option Held) → same_found o o ≡ true
same_itself None = refl
same_itself (Some it) = grind (arith, nat_tests, nat_list_eq_equiv.refl it.text)

fresh_under : (texts : Texts) (names : List (List ℕ)) → stale texts (reads_under texts names) ≡ None
fresh_under texts [] = refl
fresh_under texts (name ∷ names) = rw (same_itself (held texts name)) (fresh_under texts names)

accepted_for : (s : State) (key : Option Key) (job : PlainJob) → next s ≡ key → OfTake (Some job) ≡ OfTake (taken key s) → ((k : Key) → (after_take key s).pending k ≡ true → has_key (after_take key s).units k ≡ true) → Accepted ≡ deliver_answer (after_take key s) job
accepted_for s None job is handed has = cc
accepted_for s (Some key) job is handed has =
    let waits : s.pending key ≡ true = (and_parts (s.pending key) (not (s.out key)) (next_passes s key (sym is))).0 in
    let same : job ≡ taken_job s key = cc in
    rw (same, has key waits, waits, fresh_under s.units (needs s.units key)) refl

-- what was just taken is accepted
pub taken_accepted : {units : Texts} {commits : ℕ} {entries : Keyed} (bench inside now : BenchView) (caller : ℕ) (job : PlainJob) → inside ≡ now → now ≡ recorded bench caller ToTake → Agrees units commits entries (state_of inside) → OfTake (Some job) ≡ reply_at bench ToTake → Accepted ≡ deliver_answer (state_of now) job
taken_accepted {units} {commits} {entries} bench inside now caller job view is agrees handed =
    let s : State = state_of bench in
    let taking : state_of now ≡ after_take (next s) s = ap state_of is ∙ state_recorded bench caller ToTake ∙ after_take_is s in
    let fits = subst (λ t. Agrees units commits entries t) (ap state_of view ∙ taking) agrees in
    subst (λ t. Accepted ≡ deliver_answer t job) (sym taking) (accepted_for s (next s) job refl (handed ∙ reply_take s) (λ k waits. pending_has (after_take (next s) s) k (entry_at entries k) (fits.each k) waits))

-- a result that is refused leaves the state
pub deliver_stays : (d : Delivered) (k : Key) (s : State) → (d ≡ Accepted → ⊥) → after_deliver d k s ≡ s
deliver_stays Accepted k s not = absurd (not refl)
deliver_stays NoSuchKey k s not = refl
deliver_stays NotPending k s not = refl
deliver_stays (Stale n) k s not = refl

-- ---- after a key is given back

abbrev pub returned : State → Key → State
returned s k = record s { out = removed s.out k }

return_fits : (s : State) (k q : Key) (o : Option Entry) (b : Bool) → same_key k q ≡ b → EntryFits s q o → EntryFits (returned s k) q (cond b (option_map (λ (it : Entry). record it { out = false }) o) o)
return_fits s k q None true same fits = (fits.0, fits.1, ap (λ b. not b && s.out q) same)
return_fits s k q (Some it) true same fits = (fits.0, fits.1, ap (λ b. not b && s.out q) same, fits.3, fits.4)
return_fits s k q None false same fits = (fits.0, fits.1, ap (λ b. not b && s.out q) same ∙ fits.2)
return_fits s k q (Some it) false same fits = (fits.0, fits.1, ap (λ b. not b && s.out q) same ∙ fits.2, fits.3, fits.4)

return_ready : (s : State) (k q : Key) (b now : Bool) → same_key k q ≡ b → s.pending k ≡ true → now ≡ is_ready s q → cond b true now ≡ is_ready (returned s k) q
return_ready s k q true now same waits was =
    sym (ap (λ b. s.pending q && not (not b && s.out q)) same ∙ ap (λ p. p && true) (subst (λ x. s.pending x ≡ true) (keys_equal k q same) waits))
return_ready s k q false now same waits was = was ∙ sym (ap (λ b. s.pending q && not (not b && s.out q)) same)

return_kept : (s : State) (k q : Key) (b now : Bool) → same_key k q ≡ b → s.pending k ≡ false → now ≡ is_ready s q → now ≡ is_ready (returned s k) q
return_kept s k q true now same kept was =
    let none : s.pending q ≡ false = subst (λ x. s.pending x ≡ false) (keys_equal k q same) kept in
    was ∙ ap (λ p. p && not (s.out q)) none ∙ sym (ap (λ p. p && not (not (same_key k q) && s.out q)) none)
return_kept s k q false now same kept was = was ∙ sym (ap (λ b. s.pending q && not (not b && s.out q)) same)

-- the key waits for a result and was made ready, and then its mark was cleared
pub agrees_return : (units : Texts) (commits : ℕ) (old ready new : Keyed) (s : State) (k : Key) → Agrees units commits old s → s.pending k ≡ true → ready.entries ≡ old.entries → MarksKey k true (can_take old) (can_take ready) → ChangesEntry k (with_out false) (entry_at ready) (entry_at new) → new.ready ≡ ready.ready → Agrees units commits new (returned s k)
agrees_return units commits old ready new s k agrees waits kept joined marked left = record {
  units_are = agrees.units_are;
  commits_are = agrees.commits_are;
  each = λ q.
      subst (λ o. EntryFits (returned s k) q o) (sym (marked q ∙ ap (λ es. cond (same_key k q) (option_map (with_out false) (lookup (is_at (key_cmp q)) es)) (lookup (is_at (key_cmp q)) es)) kept)) (return_fits s k q (entry_at old q) (same_key k q) refl (agrees.each q));
  ready_are = λ q. ap (λ ks. list_any (is_at (key_cmp q)) ks) left ∙ joined q ∙ return_ready s k q (same_key k q) (can_take old q) refl waits (agrees.ready_are q);
}

-- the key has a value, and its mark was cleared
pub agrees_return_kept : (units : Texts) (commits : ℕ) (old new : Keyed) (s : State) (k : Key) → Agrees units commits old s → s.pending k ≡ false → ChangesEntry k (with_out false) (entry_at old) (entry_at new) → new.ready ≡ old.ready → Agrees units commits new (returned s k)
agrees_return_kept units commits old new s k agrees kept marked left = record {
  units_are = agrees.units_are;
  commits_are = agrees.commits_are;
  each = λ q. subst (λ o. EntryFits (returned s k) q o) (sym (marked q)) (return_fits s k q (entry_at old q) (same_key k q) refl (agrees.each q));
  ready_are = λ q. ap (λ ks. list_any (is_at (key_cmp q)) ks) left ∙ return_kept s k q (same_key k q) (can_take old q) refl kept (agrees.ready_are q);
}

-- a key that was not ready was made so and no longer is
pub agrees_unready : (units : Texts) (commits : ℕ) (old ready new : Keyed) (s : State) (k : Key) → Agrees units commits old s → s.out k ≡ true → ready.entries ≡ old.entries → MarksKey k true (can_take old) (can_take ready) → new.entries ≡ ready.entries → MarksKey k false (can_take ready) (can_take new) → Agrees units commits new s
agrees_unready units commits old ready new s k agrees out kept put same taken = record {
  units_are = agrees.units_are;
  commits_are = agrees.commits_are;
  each = λ q. subst (λ es. EntryFits s q (lookup (is_at (key_cmp q)) es)) (sym (same ∙ kept)) (agrees.each q);
  ready_are = λ q. taken q ∙ ap (λ b. cond (same_key k q) false b) (put q ∙ ap (λ b. cond (same_key k q) true b) (agrees.ready_are q)) ∙ back q (same_key k q) refl;
}
  where
    back : (q : Key) (b : Bool) → same_key k q ≡ b → cond b false (cond b true (is_ready s q)) ≡ is_ready s q
    back q true at = sym (ap (λ o. s.pending q && not o) (subst (λ x. s.out x ≡ true) (keys_equal k q at) out) ∙ and_not_true (s.pending q))
    back q false at = refl

-- entries with the same contents agree
pub agrees_same : (units : Texts) (commits : ℕ) (old new : Keyed) (s : State) → Agrees units commits old s → new.entries ≡ old.entries → SameKeys (can_take old) (can_take new) → Agrees units commits new s
agrees_same units commits old new s agrees same keys = record {
  units_are = agrees.units_are;
  commits_are = agrees.commits_are;
  each = λ q. subst (λ es. EntryFits s q (lookup (is_at (key_cmp q)) es)) (sym same) (agrees.each q);
  ready_are = λ q. keys q ∙ agrees.ready_are q;
}

-- ---- after a net was found for a key

unless_scratch : (texts : Texts) (q : Key) (value : Option Finding) (found : Arc Value Global) → finding_of found.value ≡ scratch texts q → IsScratch texts q (option_map (λ it. finding_of it.value) (unless_kept value found))
unless_scratch texts q None found is = is
unless_scratch texts q (Some value) found is = tt

found_fits : (s : State) (k q : Key) (o : Option Entry) (v : Arc Value Global) (b : Bool) → same_key k q ≡ b → finding_of v.value ≡ scratch s.units k → EntryFits s q o → EntryFits s q (cond b (option_map (with_found v) o) o)
found_fits s k q None v true same value fits = fits
found_fits s k q (Some it) v true same value fits =
    (fits.0, fits.1, fits.2, fits.3, unless_scratch s.units q (value_in it) v (value ∙ ap (λ x. scratch s.units x) (keys_equal k q same)))
found_fits s k q o v false same value fits = fits

pub agrees_found : (units : Texts) (commits : ℕ) (old new : Keyed) (s : State) (k : Key) (v : Arc Value Global) → Agrees units commits old s → finding_of v.value ≡ scratch s.units k → ChangesEntry k (with_found v) (entry_at old) (entry_at new) → new.ready ≡ old.ready → Agrees units commits new s
agrees_found units commits old new s k v agrees value found left = record {
  units_are = agrees.units_are;
  commits_are = agrees.commits_are;
  each = λ q. subst (λ o. EntryFits s q o) (sym (found q)) (found_fits s k q (entry_at old q) v (same_key k q) refl value (agrees.each q));
  ready_are = λ q. ap (λ ks. list_any (is_at (key_cmp q)) ks) left ∙ agrees.ready_are q;
}
